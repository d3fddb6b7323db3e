-- The promise for the root of a requirement. This project's own.
use Rattle.std.specs.Prelude.{◌≡◌, ℕ, List, []}
use Rattle.vpg_requirement.specs.Actions.{ActionFormula}
use Rattle.vpg_requirement.specs.NormalForms.{NormalForm}
use Rattle.vpg_parts.specs.declared.part.Part.{Part}
use Rattle.vpg_parts.specs.Preorder.{form_of, IsChained}

-- The part at a place stands for the normal form. Chains have the fixpoints around each part, and there are none around
-- this one.
pub record StandsAt (parts : List Part) (actions : List ActionFormula) (k : ℕ) (form : NormalForm) : Type 0 where
  pub chain : ℕ → List ℕ
  pub chained : IsChained parts chain
  pub outermost : chain k ≡ []
  pub stands : form_of parts actions chain k ≡ form
