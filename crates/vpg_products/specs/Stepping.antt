-- What one rule says under what is known. This project's own.
use Rattle.std.specs.Prelude.{◌≡◌, ℕ, ◌<◌, Bool, true, false, List, length, slice_index_or, Option, Some, None}
use Rattle.vpg_guards.specs.declared.tri.Tri.{Tri}
use Rattle.vpg_guards.specs.declared.tri.Tri.TheVariants.{Unknown}
use Rattle.vpg_guards.specs.Known.{IsCompletion}
use Rattle.vpg_diagram.specs.Clauses.{IsTrueIn, feature_out}
use Rattle.vpg_diagram.specs.declared.clause.Literal.{Literal}
use Rattle.vpg_products.specs.declared.stepping.Step.{Step}
use Rattle.vpg_products.specs.declared.stepping.Step.TheVariants as steps

-- the literal is of a feature that is not known, and each set that meets the rule and agrees with what is known has it
pub record IsAdded (Meets : List Bool → Type 0) (known : List Tri) (l : Literal) : Type 0 where
  pub below : l.feature < length known
  pub unknown : slice_index_or known l.feature Unknown ≡ Unknown
  pub follows : (set : List Bool) → Meets set → IsCompletion known set → IsTrueIn set l

-- a step says nothing, or adds a literal, or no set that meets the rule agrees with what is known
abbrev pub IsStep : (List Bool → Type 0) → List Tri → Step → Type 0
IsStep Meets known steps.Nothing = Unit {0}
IsStep Meets known (steps.Adds l) = IsAdded Meets known l
IsStep Meets known steps.Fails = (set : List Bool) → Meets set → IsCompletion known set → ⊥

-- the literal, if there is one, holds in the set
abbrev pub HasOpen : Option Literal → List Bool → Type 0
HasOpen None set = ⊥
HasOpen (Some l) set = IsTrueIn set l

-- a parent that cannot be in is out, or the rule fails if it is in
abbrev pub if_out : (parent : ℕ) → (is_in : Bool) → Step
if_out parent true = steps.Fails
if_out parent false = steps.Adds (feature_out parent)
