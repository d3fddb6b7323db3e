-- Whether a diagram has a product, and the warning if it has none. This project's own.
use Rattle.std.specs.Prelude.{◌≡◌, ℕ, zero, suc, ◌+◌, ◌≤◌, ◌^◌, ⊤, Bool, true, false, Option, Some, None, IsSome, List, []}
use Rattle.vpg_guards.specs.declared.tri.Tri.{Tri}
use Rattle.vpg_diagram.specs.FeatureDiagram.{Line, IsProduct}
use Rattle.vpg_partial.specs.TableLaws.{IsKnownTable}
use Rattle.vpg_number.specs.Counted.{unknown_features}
use Rattle.vpg_number.specs.declared.counted.Count.{Count}
use Rattle.vpg_number.specs.declared.counted.Count.TheVariants.{Exactly, AtLeast}
use Rattle.vpg_family.specs.declared.warnings.Sort.{Sort}
use Rattle.vpg_family.specs.declared.warnings.Sort.TheVariants.{NoProduct, NoneFound}

-- The answer is right: the diagram has a product, or it has none. Without an answer nothing is said.
abbrev pub TellsProduct : List Line → Option Bool → Type 0
TellsProduct lines (Some true) = (set : List Bool) × IsProduct lines set
TellsProduct lines (Some false) = (set : List Bool) → IsProduct lines set → ⊥
TellsProduct lines None = ⊤

-- There is an answer if 10,000 looks suffice for each case of the features that are not known: up to 12 of them.
abbrev pub IsSettled : List Line → Option Bool → Type 0
IsSettled lines any = (known : List Tri) → IsKnownTable lines [] known → 2 ^ (unknown_features known + 1) ≤ 10001 →
    IsSome any

-- whether a count is of any products; a lower bound of 0 does not show that
abbrev pub any_of : Count → Option Bool
any_of (Exactly zero) = Some false
any_of (Exactly (suc n)) = Some true
any_of (AtLeast zero) = None
any_of (AtLeast (suc n)) = Some true

-- the warning about a diagram by this answer
abbrev pub warning_of : Option Bool → Option Sort
warning_of (Some true) = None
warning_of (Some false) = Some NoProduct
warning_of None = Some NoneFound

-- The warning is that of a right answer.
abbrev pub IsWarned : List Line → Option Sort → Type 0
IsWarned lines warning =
    (any : Option Bool) × (TellsProduct lines any × IsSettled lines any × (warning ≡ warning_of any))
