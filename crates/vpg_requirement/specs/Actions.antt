-- The actions that a step may have: action formulas, as in mCRL2's language, over numbered actions.
use Rattle.std.specs.Prelude.{ℕ, Bool, true, not, ◌&&◌, ◌||◌, ◌==◌}

-- an action formula; `true` is `every_action`, and `!` is `other_than`
pub data ActionFormula : Type 0 where
  every_action : ActionFormula
  action : ℕ → ActionFormula
  other_than : ActionFormula → ActionFormula
  both_of : ActionFormula → ActionFormula → ActionFormula
  either_of : ActionFormula → ActionFormula → ActionFormula

-- whether an action formula permits an action
abbrev pub permits : ActionFormula → ℕ → Bool
permits every_action a = true
permits (action b) a = b == a
permits (other_than x) a = not (permits x a)
permits (both_of x y) a = permits x a && permits y a
permits (either_of x y) a = permits x a || permits y a
