-- Lists of records that are added together, and why one isn't. This project's own.
use Rattle.std.specs.Prelude.{◌≡◌, ◌≢◌, ◌⊎◌, ◌≤◌, ℕ, ◌+◌, ◌^◌, List, [], ◌∷◌, ◌++◌, length}
use Rattle.sqlite_disk.specs.Disk.{MoreFaults}
use Rattle.vpg_journal.specs.Frames.{AreShort, frames, records_of}
use Rattle.vpg_journal.specs.declared.fault.JournalFault.{JournalFault}
use Rattle.vpg_journal.specs.declared.fault.JournalFault.TheVariants as faults
use Rattle.vpg_journal.specs.declared.journal.Journal.{Journal}

-- the frames of one record or more, and a closed gate
pub record IsBatch (bytes : List ℕ) : Type 0 where
  pub some : records_of bytes ≢ []
  pub short : AreShort (records_of bytes)
  pub whole : bytes ≡ frames (records_of bytes) ++ 0 ∷ []

-- some record is too long, or memory ran out
abbrev pub IsNotFramed : List (List ℕ) → JournalFault → Type 0
IsNotFramed records fault = (fault ≡ faults.Memory) ⊎ ((fault ≡ faults.TooLong) × ¬ AreShort records)

-- a fault that names the disk is a call of it that failed
abbrev pub HasCause : ℕ → ℕ → JournalFault → Type 0
HasCause before now (faults.Disk e) = MoreFaults before now
HasCause before now fault = Unit {0}

-- why records are not added: the disk has failed, or nothing has changed
abbrev pub IsNotPut : {D : Type 0} → Journal D → Journal D → List (List ℕ) → ℕ → ℕ → JournalFault → Type 0
IsNotPut old new records before now faults.TooLong = (new ≡ old) × ¬ AreShort records
IsNotPut old new records before now faults.Memory = new ≡ old
IsNotPut old new records before now faults.Full =
    (new ≡ old) × ((2 ^ 62 ≤ old.gate) ⊎ (2 ^ 62 ≤ length (frames records) + 1))
IsNotPut old new records before now (faults.Disk e) = MoreFaults before now
IsNotPut old new records before now fault = ⊥
