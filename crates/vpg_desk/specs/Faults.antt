-- Why calls of a desk fail.
use Rattle.std.specs.Prelude.{◌≡◌, ℕ, ◌<◌, Bool, not, List, [], ⊤}
use Rattle.vpg_diagram.specs.Clauses.{clauses_of, counts_of}
use Rattle.vpg_diagram.specs.FeatureDiagram.{Line}
use Rattle.vpg_diagram.specs.declared.clause.Literal.{Literal}
use Rattle.vpg_partial.specs.Known.{NamesConflict}
use Rattle.vpg_partial.specs.KnownLaws.{HasConflictOf, IsKnownOf}
use Rattle.vpg_trail.specs.Page.{choices_of}
use Rattle.vpg_faults.specs.declared.fault.OpenFault.{OpenFault}
use Rattle.vpg_faults.specs.declared.fault.OpenFault.TheVariants.{AtLimit, Conflict as OpensInConflict, Memory as NoMemory}
use Rattle.vpg_desk.specs.Book.{most_changes}
use Rattle.vpg_desk.specs.State.{DeskState}
use Rattle.vpg_faults.specs.declared.fault.DecideFault.{DecideFault}
use Rattle.vpg_faults.specs.declared.fault.DecideFault.TheVariants.{Conflict as HasConflict, Memory}

-- why a closure with one more decision fails
abbrev pub ClosesWith : List Line → List Literal → ℕ → DecideFault → Type 0
ClosesWith lines choices feature (HasConflict f) =
    (f ≡ feature) × ((g : ℕ) × NamesConflict (clauses_of lines) (counts_of lines) choices g)
ClosesWith lines choices feature Memory = ⊤
ClosesWith lines choices feature _ = ⊥

-- The knowledge of the present page refuses no such decision: the feature isn't known the other way, and if it is known
-- the same way one more change is allowed.
pub record KnownRefusesNone (state : DeskState) (feature : ℕ) (value : Bool) : Type 0 where
  pub not_other : ¬ (IsKnownOf state.diagram.lines (choices_of state.book.present)
      (record { feature = feature; value = not value }))
  pub room : IsKnownOf state.diagram.lines (choices_of state.book.present)
      (record { feature = feature; value = value }) → state.book.changes < most_changes

-- why the closure of no decision fails: the diagram alone has a conflict, which names the root
abbrev pub OpensWith : List Line → OpenFault → Type 0
OpensWith lines AtLimit = ⊥
OpensWith lines (OpensInConflict f) = HasConflictOf lines [] × (f ≡ 0)
OpensWith lines NoMemory = ⊤
