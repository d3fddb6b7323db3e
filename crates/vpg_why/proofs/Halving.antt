-- What looking for the last that is needed keeps.
use Rattle.std.proofs.Common.{◌≡◌, ℕ, ◌+◌, ◌≤◌, Bool, List, IsTrue}
use Rattle.vpg_diagram.specs.declared.clause.Literal.{Literal}
use Rattle.vpg_partial.specs.declared.decision.Decision.{Decision}
use Rattle.vpg_why.specs.Explained.{choices, front_with}

-- with the higher number of first decisions they suffice, with one fewer than the lower they do not, where that is shown
pub record IsBetween (Suffices : List Literal → Type 0) (Settles : Type 0) (decisions kept : List Decision) (most low high : ℕ) (exact : Bool) : Type 0 where
  pub apart : low ≤ high
  pub within : high ≤ most
  pub enough : Suffices (choices (front_with high decisions kept))
  pub short : IsTrue exact → (n : ℕ) → low ≡ n + 1 → Suffices (choices (front_with n decisions kept)) → ⊥
  pub settled : Settles → IsTrue exact
