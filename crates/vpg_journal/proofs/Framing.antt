-- What rows of frames hold.
use Rattle.std.proofs.Common.{◌≡◌, ◌≢◌, inl, inr, ℕ, zero, suc, ◌+◌, ◌*◌, ◌/◌, ◌%◌, ◌<◌, ◌≤◌, List, [], ◌∷◌, ◌++◌, length, get_or, take, drop, refl, ◌∙◌, ap, sym, subst, arith, append_assoc, length-append, length-take, if◌then◌else◌, nat_le, Bool, true, Vec}
use Rattle.std.proofs.lemmas.List.{append-nil, take_at, drop_at, map-append, length-map, take_more, take-append-drop}
use Rattle.std.proofs.lemmas.Bool.{le-leb}
use Rattle.std.proofs.lemmas.Bool.Decides.{nat_tests}
use Rattle.std.proofs.lemmas.Grind.{flat_map-append}
use Rattle.std.proofs.Math.Nat.{mod-add-div}
use Rattle.vpg_journal.specs.Frames.{frame, frames, AreShort, records_behind, records_of, texts, IsFirst, IsParted}
use Rattle.vpg_journal.specs.Batch.{IsNotFramed}
use Rattle.vpg_journal.specs.declared.fault.JournalFault.{JournalFault}
use Rattle.std.specs.declared.alloc.Global.{Global}

-- the frames behind the first n bytes are those of the rest
pub behind_drop : (n : ℕ) (file : List ℕ) → records_behind n file ≡ records_of (drop n file)
behind_drop zero file = refl
behind_drop (suc n) [] = refl
behind_drop (suc n) (byte ∷ rest) = behind_drop n rest

first_sized : (low high : ℕ) (text rest : List ℕ) → low + 256 * high ≡ length text → records_of (1 ∷ low ∷ high ∷ text ++ rest) ≡ text ∷ records_of rest
first_sized low high text rest size =
    let fits : nat_le (low + 256 * high) (length (text ++ rest)) ≡ true = le-leb (low + 256 * high) (length (text ++ rest)) (omega (arith, size, length-append text rest)) in
    let here : take (low + 256 * high) (text ++ rest) ≡ text = take_at text rest (low + 256 * high) (sym size) in
    let behind : records_behind (low + 256 * high) (text ++ rest) ≡ records_of rest =
    behind_drop (low + 256 * high) (text ++ rest) ∙ ap records_of (drop_at text rest (low + 256 * high) (sym size)) in
    ap (λ (b : Bool). if b then take (low + 256 * high) (text ++ rest) ∷ records_behind (low + 256 * high) (text ++ rest) else []) fits
    ∙ ap (λ (t : List ℕ). t ∷ records_behind (low + 256 * high) (text ++ rest)) here
    ∙ ap (λ (ts : List (List ℕ)). text ∷ ts) behind

-- an open frame, and then whatever the rest holds
pub first_records : (text rest : List ℕ) → records_of (frame text ++ rest) ≡ text ∷ records_of rest
first_records text rest = first_sized (length text % 256) (length text / 256) text rest (mod-add-div (length text) 256)

pub frames_records : (records : List (List ℕ)) (rest : List ℕ) → records_of (frames records ++ rest) ≡ records ++ records_of rest
frames_records [] rest = refl
frames_records (text ∷ records) rest =
    ap records_of (append_assoc (frame text) (frames records) rest)
    ∙ first_records text (frames records ++ rest)
    ∙ ap (λ (ts : List (List ℕ)). text ∷ ts) (frames_records records rest)

closed : (gate : ℕ) (rest : List ℕ) → gate ≢ 1 → records_of (gate ∷ rest) ≡ []
closed gate [] shut = refl
closed gate (a ∷ []) shut = refl
closed gate (a ∷ b ∷ rest) shut = grind (arith, nat_tests)

-- a closed gate ends them, whatever stands behind it
pub records_closed : (records : List (List ℕ)) (gate : ℕ) (rest : List ℕ) → gate ≢ 1 → records_of (frames records ++ gate ∷ rest) ≡ records
records_closed records gate rest shut =
    frames_records records (gate ∷ rest) ∙ ap (λ (ts : List (List ℕ)). records ++ ts) (closed gate rest shut) ∙ append-nil records

pub parted_records : (file : List ℕ) (records : List (List ℕ)) (gate : ℕ) → IsParted file records gate → records_of file ≡ records
parted_records file records gate is =
    ap records_of is.whole ∙ frames_records records is.rest ∙ ap (λ (ts : List (List ℕ)). records ++ ts) is.nothing ∙ append-nil records

pub short_append : (xs ys : List (List ℕ)) → AreShort xs → AreShort ys → AreShort (xs ++ ys)
short_append [] ys first second = second
short_append (x ∷ xs) ys first second = (first.0, short_append xs ys first.1 second)

pub short_at : (xs : List (List ℕ)) (i : ℕ) → AreShort xs → i < length xs → length (get_or xs i []) < 65536
short_at [] i short low = absurd (omega arith)
short_at (x ∷ xs) zero short low = short.0
short_at (x ∷ xs) (suc i) short low = short_at xs i short.1 (omega arith)

-- a file that begins with an open gate and a length, by its parts
pub first_of : (file : List ℕ) (low high : ℕ) (text rest : List ℕ) → 3 ≤ length file → get_or file 0 0 ≡ 1 → get_or file 1 0 ≡ low → get_or file 2 0 ≡ high
    → low < 256 → high < 256 → low + 256 * high ≤ length (drop 3 file) → text ≡ take (low + 256 * high) (drop 3 file) → rest ≡ drop (low + 256 * high) (drop 3 file)
    → IsFirst file text rest
first_of [] low high text rest three gate a b c d fits t r = absurd (omega arith)
first_of (x ∷ []) low high text rest three gate a b c d fits t r = absurd (omega arith)
first_of (x ∷ y ∷ []) low high text rest three gate a b c d fits t r = absurd (omega arith)
first_of (x ∷ y ∷ z ∷ behind) low high text rest three gate a b c d fits t r =
    let size : length text ≡ low + 256 * high = omega (arith, ap length t, length-take (low + 256 * high) behind, fits) in
    let is_low : length text % 256 ≡ low = omega (arith, size, c, d, mod-add-div (length text) 256) in
    let is_high : length text / 256 ≡ high = omega (arith, size, c, d, is_low, mod-add-div (length text) 256) in
    let same : text ++ rest ≡ behind = ap (λ (l : List ℕ). l ++ rest) t ∙ ap (λ (l : List ℕ). take (low + 256 * high) behind ++ l) r ∙ take-append-drop (low + 256 * high) behind in
    record {
      short = omega (arith, size, c, d);
      whole = λ i. (gate i) ∷ (a ∙ sym is_low) i ∷ (b ∙ sym is_high) i ∷ sym same i;
    }

-- the frame of one more record stands behind the others
pub frames_push : (records : List (List ℕ)) (text : List ℕ) → frames (records ++ text ∷ []) ≡ frames records ++ frame text
frames_push records text = flat_map-append frame records (text ∷ []) ∙ ap (λ (l : List ℕ). frames records ++ l) (append-nil (frame text))

-- one more frame is read
pub push_framed : (file rest : List ℕ) (records : List (List ℕ)) (text behind : List ℕ) (more : List (List ℕ)) → more ≡ records ++ text ∷ []
    → file ≡ frames records ++ rest → AreShort records → IsFirst rest text behind → (file ≡ frames more ++ behind) × AreShort more
push_framed file rest records text behind more is whole short first =
    let row : frames (records ++ text ∷ []) ≡ frames records ++ frame text = frames_push records text in (
      whole ∙ ap (λ (l : List ℕ). frames records ++ l) first.whole ∙ sym (append_assoc (frames records) (frame text) behind)
          ∙ ap (λ (l : List ℕ). l ++ behind) (sym row) ∙ ap (λ (ts : List (List ℕ)). frames ts ++ behind) (sym is),
      subst AreShort (sym is) (short_append records (text ∷ []) short (first.short, tt)),
    )

pub member_refused : (records : List (List ℕ)) (i : ℕ) (text : List ℕ) (fault : JournalFault) → i < length records → text ≡ get_or records i []
    → IsNotFramed (text ∷ []) fault → IsNotFramed records fault
member_refused records i text fault low is (inl memory) = inl memory
member_refused records i text fault low is (inr long) =
    inr (long.0, λ short. long.1 (subst (λ (t : List ℕ). length t < 65536) (sym is) (short_at records i short low), tt))

pub texts_at : (records : List (Vec ℕ Global)) (i : ℕ) (v : Vec ℕ Global) → i < length records → get_or (texts records) i [] ≡ (get_or records i v).items
texts_at [] i v low = absurd (omega arith)
texts_at (r ∷ records) zero v low = refl
texts_at (r ∷ records) (suc i) v low = texts_at records i v (omega arith)

pub texts_push : (records : List (Vec ℕ Global)) (v : Vec ℕ Global) → texts (records ++ v ∷ []) ≡ texts records ++ v.items ∷ []
texts_push records v = map-append (λ (w : Vec ℕ Global). w.items) records (v ∷ [])

-- the frames of the records so far, with the next one
module _ (records : List (Vec ℕ Global)) (i : ℕ) (v : Vec ℕ Global) (low : i < length records) (is : v ≡ get_or records i v) where
  pub texts_next : texts (take (i + 1) records) ≡ texts (take i records) ++ v.items ∷ []
  texts_next =
      ap texts (take_more records i v low) ∙ texts_push (take i records) (get_or records i v)
      ∙ ap (λ (w : Vec ℕ Global). texts (take i records) ++ w.items ∷ []) (sym is)

  pub item_at : v.items ≡ get_or (texts records) i []
  item_at = ap (λ (w : Vec ℕ Global). w.items) is ∙ sym (texts_at records i v low)

  pub low_text : i < length (texts records)
  low_text = omega (arith, low, length-map records (λ (w : Vec ℕ Global). w.items))

  pub frames_next : (text : List ℕ) → text ≡ v.items → frames (texts (take (i + 1) records)) ≡ frames (texts (take i records)) ++ frame text
  frames_next text same = ap frames texts_next ∙ frames_push (texts (take i records)) v.items ∙ ap (λ (t : List ℕ). frames (texts (take i records)) ++ frame t) (sym same)

  pub short_next : (text : List ℕ) → text ≡ v.items → AreShort (texts (take i records)) → length text < 65536 → AreShort (texts (take (i + 1) records))
  short_next text same short size =
      subst AreShort (sym texts_next) (short_append (texts (take i records)) (v.items ∷ []) short (subst (λ (t : List ℕ). length t < 65536) same size, tt))
