-- Which head a family's book has, and which file is refused. This project's own.
use Rattle.std.specs.Prelude.{◌≡◌, ◌≢◌, ◌≤◌, ℕ, ◌+◌, List, [], ◌∷◌, ◌++◌, length, slice_index, codes}
use Rattle.vpg_journal.specs.Frames.{AreShort, records_of}
use Rattle.vpg_journal.specs.Journal.{IsAtRest, IsBeforeOrAfter}
use Rattle.vpg_journal.specs.declared.fault.JournalFault.{JournalFault}
use Rattle.vpg_journal.specs.declared.fault.JournalFault.TheVariants as faults

-- the first record of a book: the word that each book begins with, a version, and the family
abbrev pub head_under : ℕ → List ℕ → List ℕ
head_under version family = codes "vpgdesk book" ++ version ∷ family

-- the head that this version writes
abbrev pub head_of : List ℕ → List ℕ
head_of family = head_under 1 family

-- an empty file, or one that was begun and never opened: no longer than a head's frame and the gate behind it
pub record IsBlank (file family : List ℕ) : Type 0 where
  pub begun : slice_index file 0 ≡ 0
  pub small : length file ≤ length (head_of family) + 4

-- the first record is a head of this version and family
abbrev pub HasHead : List ℕ → ℕ → List ℕ → Type 0
HasHead file version family = (records : List (List ℕ)) × (records_of file ≡ head_under version family ∷ records)

-- why a file is not opened as the book of a family; of faults of calls nothing is said
abbrev pub IsRefused : List ℕ → List ℕ → JournalFault → Type 0
IsRefused file family faults.NoBook =
    ¬ IsBlank file family × ((version : ℕ) (other : List ℕ) → ¬ HasHead file version other)
IsRefused file family (faults.OtherVersion version) = (version ≢ 1) × ((other : List ℕ) × HasHead file version other)
IsRefused file family faults.OtherFamily = (other : List ℕ) × (other ≢ family) × HasHead file 1 other
IsRefused file family faults.CutShort = HasHead file 1 family × ((gate : ℕ) → ¬ IsAtRest file gate)
IsRefused file family faults.TooLong = IsBlank file family × ¬ AreShort (head_of family ∷ [])
IsRefused file family faults.Full = ⊥
IsRefused file family fault = Unit {0}

-- why a first record is refused
abbrev pub IsOtherHead : List ℕ → List ℕ → JournalFault → Type 0
IsOtherHead text family faults.NoBook = (version : ℕ) (other : List ℕ) → text ≢ head_under version other
IsOtherHead text family (faults.OtherVersion version) =
    (version ≢ 1) × ((other : List ℕ) × (text ≡ head_under version other))
IsOtherHead text family faults.OtherFamily = (other : List ℕ) × (other ≢ family) × (text ≡ head_under 1 other)
IsOtherHead text family fault = ⊥

-- a blank file is begun: a crash leaves it with the head or with no record
pub record IsBegun (file family c : List ℕ) : Type 0 where
  pub blank : IsBlank file family
  pub either : IsBeforeOrAfter [] (head_of family ∷ []) c
