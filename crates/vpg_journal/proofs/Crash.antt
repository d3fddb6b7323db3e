-- What a crash leaves in each of the two steps in which records are added.
use Rattle.std.proofs.Common.{◌≡◌, ◌≢◌, ◌≤◌, inl, inr, ℕ, ◌+◌, List, [], ◌∷◌, ◌++◌, length, get_or, take, drop, refl, sym, ◌∙◌, ap, subst, arith, append_assoc, length-append, length-take, take-append-drop}
use Rattle.std.proofs.lemmas.Bool.{cases_eq}
use Rattle.std.proofs.lemmas.List.{take_at, drop_at, drop_more}
use Rattle.std.proofs.lemmas.Grind.{flat_map-append}
use Rattle.sqlite_disk.specs.Disk.{Holds, Torn, Follows, Only}
use Rattle.vpg_journal.specs.Frames.{frame, frames, AreShort, records_of}
use Rattle.vpg_journal.specs.Journal.{IsAtRest, IsBeforeOrAfter}
use Rattle.vpg_journal.proofs.Framing.{records_closed}
use Rattle.vpg_journal.proofs.Bytes.{before, after, written, drop_drop}

seam : (xs : List ℕ) (y : ℕ) (ys : List ℕ) → get_or (xs ++ y ∷ ys) (length xs) 0 ≡ y
seam [] y ys = refl
seam (x ∷ xs) y ys = seam xs y ys

-- a file that ends so is at rest, and holds these
pub at_rest : (file : List ℕ) (records : List (List ℕ)) (n gate : ℕ) (rest : List ℕ) → AreShort records → length (frames records) ≡ n → gate ≢ 1
    → file ≡ frames records ++ gate ∷ rest → IsAtRest file n × (records_of file ≡ records)
at_rest file records n gate rest short size shut is =
    let same : records_of file ≡ records = ap records_of is ∙ records_closed records gate rest shut in
    let here : get_or file n 0 ≡ gate =
    ap (λ (l : List ℕ). get_or l n 0) is ∙ ap (λ (i : ℕ). get_or (frames records ++ gate ∷ rest) i 0) (sym size) ∙ seam (frames records) gate rest in (
      record {
        short = subst AreShort (sym same) short;
        front = ap (take n) is ∙ take_at (frames records) (gate ∷ rest) n size ∙ ap frames (sym same);
        within = omega (arith, ap length is, length-append (frames records) (gate ∷ rest), size);
        closed = λ one. shut (sym here ∙ one);
      },
      same,
    )

-- a file at rest is its frames, the gate and the rest
pub rested : (file : List ℕ) (n : ℕ) → IsAtRest file n → file ≡ frames (records_of file) ++ get_or file n 0 ∷ drop (n + 1) file
rested file n r =
    sym (take-append-drop n file) ∙ ap (λ (l : List ℕ). l ++ drop n file) r.front
    ∙ ap (λ (l : List ℕ). frames (records_of file) ++ l) (drop_more file n 0 r.within)

pub rested_size : (file : List ℕ) (n : ℕ) → IsAtRest file n → length (frames (records_of file)) ≡ n
rested_size file n r = omega (arith, ap length r.front, length-take n file, r.within)

module _ (records : List (List ℕ)) (n gate : ℕ) (rest : List ℕ) (size : length (frames records) ≡ n) (shut : gate ≢ 1) where
  abbrev pub resting : List ℕ
  resting = frames records ++ gate ∷ rest

  -- the file with these bytes behind the closed gate
  abbrev pub staged : List ℕ → List ℕ
  staged tail = frames records ++ gate ∷ (tail ++ drop (length tail) rest)

  front_size : length (frames records ++ gate ∷ []) ≡ n + 1
  front_size = omega (arith, size, length-append (frames records) (gate ∷ []))

  front : (tail : List ℕ) → take (n + 1) (frames records ++ gate ∷ tail) ≡ frames records ++ gate ∷ []
  front tail = ap (take (n + 1)) (sym (append_assoc (frames records) (gate ∷ []) tail)) ∙ take_at (frames records ++ gate ∷ []) tail (n + 1) front_size

  back : (tail : List ℕ) → drop (n + 1) (frames records ++ gate ∷ tail) ≡ tail
  back tail = ap (drop (n + 1)) (sym (append_assoc (frames records) (gate ∷ []) tail)) ∙ drop_at (frames records ++ gate ∷ []) tail (n + 1) front_size

  pub within : (tail : List ℕ) → n + 1 ≤ length (frames records ++ gate ∷ tail)
  within tail = omega (arith, size, length-append (frames records) (gate ∷ tail))

  -- the closed gate stands in each outcome of the first write
  pub torn_behind : (m : ℕ) (c : List ℕ) → Torn (n + 1) m resting c → records_of c ≡ records
  torn_behind m c torn =
      let same = before (n + 1) m resting c (within rest) torn ∙ front rest in
      let whole : c ≡ frames records ++ gate ∷ drop (n + 1) c =
      sym (take-append-drop (n + 1) c) ∙ ap (λ (l : List ℕ). l ++ drop (n + 1) c) same ∙ append_assoc (frames records) (gate ∷ []) (drop (n + 1) c) in
      ap records_of whole ∙ records_closed records gate (drop (n + 1) c) shut

  pub written_behind : (tail : List ℕ) (c : List ℕ) → Torn (n + 1) (length tail) resting c → Holds c (n + 1) tail → c ≡ staged tail
  written_behind tail c torn holds =
      written (n + 1) tail resting c (within rest) torn holds
      ∙ ap (λ (l : List ℕ). l ++ (tail ++ drop (n + 1 + length tail) resting)) (front rest)
      ∙ ap (λ (l : List ℕ). (frames records ++ gate ∷ []) ++ (tail ++ l)) (drop_drop (n + 1) (length tail) resting ∙ ap (drop (length tail)) (back rest))
      ∙ append_assoc (frames records) (gate ∷ []) (tail ++ drop (length tail) rest)

  module _ (news : List (List ℕ)) (tail : List ℕ) (batch : 1 ∷ tail ≡ frames news ++ 0 ∷ []) where
    opened : (more : List ℕ) → frames records ++ 1 ∷ (tail ++ more) ≡ frames (records ++ news) ++ 0 ∷ more
    opened more =
        ap (λ (l : List ℕ). frames records ++ (l ++ more)) batch
        ∙ ap (λ (l : List ℕ). frames records ++ l) (append_assoc (frames news) (0 ∷ []) more)
        ∙ sym (append_assoc (frames records) (frames news) (0 ∷ more))
        ∙ ap (λ (l : List ℕ). l ++ 0 ∷ more) (sym (flat_map-append frame records news))

    -- any gate before whole frames: they count, or they don't
    gated : (now : ℕ) (more : List ℕ) → IsBeforeOrAfter records news (frames records ++ now ∷ (tail ++ more))
    gated now more = elim (cases_eq now 1) [
      | inl one ↦ inr (ap (λ (g : ℕ). records_of (frames records ++ g ∷ (tail ++ more))) one ∙ ap records_of (opened more) ∙ records_closed (records ++ news) 0 more (omega arith))
      | inr other ↦ inl (records_closed records now (tail ++ more) other)
    ]

    -- the frames stand whole in each outcome of the second write
    pub torn_gate : (c : List ℕ) → Torn n 1 (staged tail) c → IsBeforeOrAfter records news c
    torn_gate c torn =
        let behind = tail ++ drop (length tail) rest in
        let long = within behind in
        let same : take n c ≡ frames records =
        before n 1 (staged tail) c (omega (arith, long)) torn ∙ take_at (frames records) (gate ∷ behind) n size in
        let rest_is : drop n c ≡ get_or c n 0 ∷ behind =
        drop_more c n 0 (omega (arith, long, torn.no_shorter)) ∙ ap (λ (l : List ℕ). get_or c n 0 ∷ l) (after n 1 (staged tail) c (omega (arith, long)) torn ∙ back behind) in
        let whole : c ≡ frames records ++ get_or c n 0 ∷ behind =
        sym (take-append-drop n c) ∙ ap (λ (l : List ℕ). l ++ drop n c) same ∙ ap (λ (l : List ℕ). frames records ++ l) rest_is in
        subst (IsBeforeOrAfter records news) (sym whole) (gated (get_or c n 0) (drop (length tail) rest))

    pub written_gate : (c : List ℕ) → Torn n 1 (staged tail) c → Holds c n (1 ∷ []) → c ≡ frames (records ++ news) ++ 0 ∷ drop (length tail) rest
    written_gate c torn holds =
        let behind = tail ++ drop (length tail) rest in
        written n (1 ∷ []) (staged tail) c (omega (arith, within behind)) torn holds
        ∙ ap (λ (l : List ℕ). l ++ ((1 ∷ []) ++ drop (n + 1) (staged tail))) (take_at (frames records) (gate ∷ behind) n size)
        ∙ ap (λ (l : List ℕ). frames records ++ ((1 ∷ []) ++ l)) (back behind)
        ∙ opened (drop (length tail) rest)

    pub gate_crash : (old new : List ℕ → Type 0) → Only (staged tail) old → Follows (Torn n 1) old new → (c : List ℕ) → new c → IsBeforeOrAfter records news c
    gate_crash old new only follows c left =
        let from = follows c left in
        torn_gate c (subst (λ f. Torn n 1 f c) (only from.0 from.1) from.2)

  pub stage_crash : (m : ℕ) (old new : List ℕ → Type 0) → Only resting old → Follows (Torn (n + 1) m) old new → (c : List ℕ) → new c → records_of c ≡ records
  stage_crash m old new only follows c left =
      let from = follows c left in
      torn_behind m c (subst (λ f. Torn (n + 1) m f c) (only from.0 from.1) from.2)
