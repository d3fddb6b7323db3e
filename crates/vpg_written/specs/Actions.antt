-- The set of actions of a mark, from those of its operands. This project's own.
use Rattle.std.specs.Prelude.{◌≡◌, ℕ, ◌<◌, List, length, Bool}
use Rattle.vpg_requirement.specs.Actions.{ActionFormula}
use Rattle.vpg_parts.specs.Sets.{actions_at}
use Rattle.vpg_formula.specs.declared.mark.Mark.{Mark}
use Rattle.vpg_written.specs.Trees.{Tree, node, actions_in}
use Rattle.vpg_written.specs.Terms.{IsSetOf}
use Rattle.vpg_written.specs.declared.sets.Actions.{Actions}
use Rattle.vpg_written.specs.declared.sets.Actions.TheVariants as sets

-- the action formula is that of a mark with operands of these sets
abbrev pub IsActionsOf : List (List ℕ) → Mark → List ActionFormula → ℕ → ℕ → ActionFormula → Type 0
IsActionsOf names m actions first second x =
    (s t : Tree) → actions_at actions first ≡ actions_in names s → actions_at actions second ≡ actions_in names t →
    x ≡ actions_in names (node m s t)

-- a new set, of that action formula
pub record IsNewSet (names : List (List ℕ)) (m : Mark) (actions : List ActionFormula) (first second : ℕ)
    (set : List Bool) : Type 0 where
  pub formula : ActionFormula
  pub set_is : IsSetOf (length names) set formula
  pub is : IsActionsOf names m actions first second formula

abbrev pub AreActions : List (List ℕ) → Mark → List ActionFormula → ℕ → ℕ → Actions → Type 0
AreActions names m actions first second (sets.Known n) =
    (n < length actions) × IsActionsOf names m actions first second (actions_at actions n)
AreActions names m actions first second (sets.New set) = IsNewSet names m actions first second set
