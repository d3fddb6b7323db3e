-- Why choices have no table of known features.
use Rattle.std.specs.Prelude.{ℕ, ◌<◌, ◌≤◌, Bool, List, length, take, ⊤}
use Rattle.vpg_diagram.specs.declared.clause.Literal.{Literal}
use Rattle.vpg_diagram.specs.FeatureDiagram.{Line}
use Rattle.vpg_diagram.specs.Clauses.{clauses_of, counts_of}
use Rattle.vpg_partial.specs.Known.{NamesConflict}
use Rattle.vpg_partial.specs.KnownLaws.{IsRemaining, HasConflictOf}
use Rattle.vpg_partial.specs.declared.fault.PartialFault.{PartialFault}
use Rattle.vpg_partial.specs.declared.fault.PartialFault.TheVariants.{Conflict, Memory}

-- the conflict has this name; a lack of memory shows nothing about the choices
abbrev pub IsCloseFault : List Line → List Literal → PartialFault → Type 0
IsCloseFault lines choices (Conflict feature) = NamesConflict (clauses_of lines) (counts_of lines) choices feature
IsCloseFault lines choices Memory = ⊤

-- Of the fronts of the list, the one of this length is the shortest that has a conflict.
pub record IsShortestConflict (lines : List Line) (choices : List Literal) (front : ℕ) : Type 0 where
  pub within : front ≤ length choices
  pub conflict : HasConflictOf lines (take front choices)
  pub shorter : (fewer : ℕ) → fewer < front → HasConflictOf lines (take fewer choices) → ⊥

-- no product agrees with the shortest front that has a conflict
abbrev pub LeavesNoProduct : List Line → List Literal → PartialFault → Type 0
LeavesNoProduct lines choices (Conflict feature) =
    (front : ℕ) × IsShortestConflict lines choices front ×
    ((features : List Bool) → IsRemaining lines (take front choices) features → ⊥)
LeavesNoProduct lines choices Memory = ⊤
