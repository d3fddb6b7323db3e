-- What the engine holds from one line to the next: tokens by their serials, harvests, and the verdicts that were
-- reported last.
use Rattle.std.specs.Prelude.{ℕ, zero, suc, ◌-◌, max, ◌==◌, if◌then◌else◌, List, [], ◌∷◌, ◌++◌, length, Option, Some, None, slice_get, slice_index_or, slice_set}
use Rattle.std.specs.List.{reduce}
use Rattle.vpg_sides.specs.declared.verdict.Verdict.{Verdict}
use Rattle.vpg_desk.specs.Book.{Harvest, has_serial}

pub record Held : Type 0 where
  -- the serials of the undos and of the redos, in the order in which they came
  pub undos : List ℕ
  pub redos : List ℕ
  -- harvest K stands at place K - 1 for ever, and is None once it was committed
  pub harvests : List (Option Harvest)
  -- the verdicts at the last `changed`; none before the first one
  pub seen : List Verdict

-- when a script begins
abbrev pub nothing_held : Held
nothing_held = record { undos = []; redos = []; harvests = []; seen = [] }

-- ---- what a command means

abbrev pub if_among : List ℕ → ℕ → Option ℕ
if_among serials s = if has_serial s serials then Some s else None

-- of the undos held the one of this serial, or without one that of the greatest serial
abbrev pub undo_meant : List ℕ → Option ℕ → Option ℕ
undo_meant undos (Some s) = if_among undos s
undo_meant undos None = reduce max undos

-- of the redos held the one of this serial, or without one that of the latest accepted undo
abbrev pub redo_meant : List ℕ → Option ℕ → Option ℕ
redo_meant redos (Some s) = if_among redos s
redo_meant redos None = slice_get redos (length redos - 1)

-- harvest K, if it is kept
abbrev pub harvest_kept : {H : Type 0} → List (Option H) → ℕ → Option H
harvest_kept harvests zero = None
harvest_kept harvests (suc k) = slice_index_or harvests k None

-- ---- what is held after an accepted call

-- the serials without the first that is s
abbrev pub without : ℕ → List ℕ → List ℕ
without s [] = []
without s (n ∷ serials) = if n == s then serials else n ∷ without s serials

-- a change gives its undo
abbrev pub after_change : Held → ℕ → Held
after_change held s = record held { undos = held.undos ++ s ∷ [] }

-- an undo is exchanged for a redo, a redo for an undo
abbrev pub after_undo : Held → ℕ → Held
after_undo held s = record held { undos = without s held.undos; redos = held.redos ++ s ∷ [] }

abbrev pub after_redo : Held → ℕ → Held
after_redo held s = record held { undos = held.undos ++ s ∷ []; redos = without s held.redos }

-- the token is spent
abbrev pub after_keep : Held → ℕ → Held
after_keep held s = record held { undos = without s held.undos }

abbrev pub after_forget : Held → ℕ → Held
after_forget held s = record held { redos = without s held.redos }

-- the next harvest is kept; harvest K is removed
abbrev pub with_harvest : Held → Harvest → Held
with_harvest held made = record held { harvests = held.harvests ++ Some made ∷ [] }

abbrev pub without_harvest : Held → ℕ → Held
without_harvest held k = record held { harvests = slice_set held.harvests (k - 1) None }

-- the verdicts that were just reported are the ones seen from now on
abbrev pub with_seen : Held → List Verdict → Held
with_seen held verdicts = record held { seen = verdicts }
