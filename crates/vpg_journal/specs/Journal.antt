-- When a journal is settled, and what a crash may leave. The form of the kit's journal of pairs.
use Rattle.std.specs.Prelude.{◌≡◌, ◌≢◌, ◌⊎◌, ◌<◌, ℕ, List, ◌++◌, length, slice_index, take}
use Rattle.sqlite_disk.specs.Disk.{Only}
use Rattle.vpg_journal.specs.Frames.{frames, AreShort, records_of}
use Rattle.vpg_journal.specs.declared.journal.Journal.{Journal}

-- the file is the frames of its records, a closed gate at this place, and behind that anything
pub record IsAtRest (file : List ℕ) (gate : ℕ) : Type 0 where
  pub short : AreShort (records_of file)
  pub front : take gate file ≡ frames (records_of file)
  pub within : gate < length file
  pub closed : slice_index file gate ≢ 1

-- the file is at rest, and all of it is on the disk
pub record IsSettled {D : Type 0} (seen : D → List ℕ) (may_leave : D → List ℕ → Type 0)
    (journal : Journal D) : Type 0 where
  pub file : IsAtRest (seen journal.disk) journal.gate
  pub durable : Only (seen journal.disk) (may_leave journal.disk)

-- the file holds the old records, with all of the new ones or with none
abbrev pub IsBeforeOrAfter : List (List ℕ) → List (List ℕ) → List ℕ → Type 0
IsBeforeOrAfter old more file = (records_of file ≡ old) ⊎ (records_of file ≡ old ++ more)
