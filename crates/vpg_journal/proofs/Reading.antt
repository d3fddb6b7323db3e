-- Why a file is opened as a book, or refused.
use Rattle.std.proofs.Common.{◌≡◌, ◌≢◌, ◌≤◌, ◌<◌, ◌⊎◌, inl, inr, ℕ, ◌+◌, ◌-◌, List, [], ◌∷◌, ◌++◌, length, get_or, take, drop, refl, sym, ◌∙◌, ap, subst, arith, append_assoc, length-append, take-append-drop, Bool, true, false, not, codes}
use Rattle.std.proofs.lemmas.List.{take_at}
use Rattle.vpg_journal.specs.Frames.{frame, frames, AreShort, records_of, IsFirst, IsParted}
use Rattle.vpg_journal.specs.Head.{HasHead, IsBlank, IsOtherHead, IsRefused, head_under}
use Rattle.vpg_journal.specs.Journal.{IsAtRest}
use Rattle.vpg_journal.specs.declared.fault.JournalFault.{JournalFault}
use Rattle.vpg_journal.specs.declared.fault.JournalFault.TheVariants as faults
use Rattle.vpg_journal.proofs.Framing.{first_records, parted_records}
use Rattle.vpg_journal.proofs.Crash.{at_rest, rested_size}

-- a file that begins with a zero is at rest, and holds nothing
pub closed_first : (file : List ℕ) → 0 < length file → get_or file 0 0 ≡ 0 → IsAtRest file 0 × (records_of file ≡ [])
closed_first [] some zero_first = absurd (omega arith)
closed_first (byte ∷ rest) some zero_first = at_rest (byte ∷ rest) [] 0 byte rest tt refl (omega (arith, zero_first)) refl

-- one byte is no frame
pub one_byte : (file : List ℕ) → length file ≤ 1 → records_of file ≡ []
one_byte [] small = refl
one_byte (a ∷ []) small = refl
one_byte (a ∷ b ∷ rest) small = absurd (omega arith)

pub zero_nothing : (file : List ℕ) → get_or file 0 0 ≡ 0 → records_of file ≡ []
zero_nothing [] zero_first = refl
zero_nothing (byte ∷ rest) zero_first = (closed_first (byte ∷ rest) (omega arith) zero_first).1

-- the records of a book, by its parts
module _ (file text rest : List ℕ) (records : List (List ℕ)) (place : ℕ) (first : IsFirst file text rest) (behind : IsParted rest records place) where
  pub book_records : records_of file ≡ text ∷ records
  book_records = ap records_of first.whole ∙ first_records text rest ∙ ap (λ (ts : List (List ℕ)). text ∷ ts) (parted_records rest records place behind)

  book_whole : file ≡ frames (text ∷ records) ++ behind.rest
  book_whole = first.whole ∙ ap (λ (l : List ℕ). frame text ++ l) behind.whole ∙ sym (append_assoc (frame text) (frames records) behind.rest)

  book_place : (gate : ℕ) → gate ≡ length file - length rest + place → length (frames (text ∷ records)) ≡ gate
  book_place gate is = omega (arith, is, ap length first.whole, length-append (frame text) rest, length-append (frame text) (frames records), behind.place)

  pub book_at_rest : (gate : ℕ) → gate ≡ length file - length rest + place → gate < length file → get_or file gate 0 ≢ 1 → IsAtRest file gate
  book_at_rest gate is low shut =
      let size = book_place gate is in
      record {
        short = subst AreShort (sym book_records) (first.short, behind.short);
        front = ap (take gate) book_whole ∙ take_at (frames (text ∷ records)) behind.rest gate size ∙ ap frames (sym book_records);
        within = low;
        closed = shut;
      }

  -- with no closed gate behind its frames it is not at rest, wherever its gate is looked for
  pub cut_short : (gate : ℕ) → gate ≡ length file - length rest + place → (length file ≤ gate) ⊎ (get_or file gate 0 ≡ 1) → (other : ℕ) → ¬ IsAtRest file other
  cut_short gate is none other r =
      let same : other ≡ gate = sym (rested_size file other r) ∙ ap (λ ts. length (frames ts)) book_records ∙ book_place gate is in
      elim none [
        | inl past ↦ absurd (omega (arith, past, same, r.within))
        | inr one ↦ r.closed (ap (λ (i : ℕ). get_or file i 0) same ∙ one)
      ]

pub other_refused : (file text family : List ℕ) (records : List (List ℕ)) (fault : JournalFault) → ¬ IsBlank file family → records_of file ≡ text ∷ records → IsOtherHead text family fault → IsRefused file family fault
other_refused file text family records faults.NoBook filled is o = (filled, λ version other has. o version other (ap (λ (ts : List (List ℕ)). get_or ts 0 []) (sym is ∙ has.1)))
other_refused file text family records (faults.OtherVersion version) filled is o = (o.0, (o.1.0, (records, is ∙ ap (λ (t : List ℕ). t ∷ records) o.1.1)))
other_refused file text family records faults.OtherFamily filled is o = (o.0, o.1, (records, is ∙ ap (λ (t : List ℕ). t ∷ records) o.2))
other_refused file text family records faults.CutShort filled is o = absurd o
other_refused file text family records faults.TooLong filled is o = absurd o
other_refused file text family records faults.Full filled is o = absurd o
other_refused file text family records (faults.Disk e) filled is o = absurd o
other_refused file text family records faults.Memory filled is o = absurd o

pub none_refused : (file : List ℕ) → records_of file ≡ [] → (version : ℕ) (other : List ℕ) → ¬ HasHead file version other
none_refused file none version other has = absurd (omega (arith, ap length (sym none ∙ has.1)))

first_split : (rest : List ℕ) → 1 ≤ length rest → rest ≡ get_or rest 0 0 ∷ drop 1 rest
first_split [] some = absurd (omega arith)
first_split (byte ∷ rest) some = refl

-- a text that begins with the word, by its parts
pub head_parts : (text rest : List ℕ) (version : ℕ) → take 12 text ≡ codes "vpgdesk book" → rest ≡ drop 12 text → 1 ≤ length rest → get_or rest 0 0 ≡ version → text ≡ head_under version (drop 1 rest)
head_parts text rest version word is some first =
    sym (take-append-drop 12 text) ∙ ap (λ (l : List ℕ). l ++ drop 12 text) word
    ∙ ap (λ (l : List ℕ). codes "vpgdesk book" ++ l) (sym is ∙ first_split rest some ∙ ap (λ (v : ℕ). v ∷ drop 1 rest) first)

pub not_other : (b r : Bool) → r ≡ not b → r ≡ false → true ≡ b
not_other true r e f = refl
not_other false r e f = absurd (cc)

pub is_other : (b r : Bool) → r ≡ not b → r ≡ true → false ≡ b
is_other true r e f = absurd (cc)
is_other false r e f = refl
