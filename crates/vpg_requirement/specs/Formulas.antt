-- Requirements in their written form: formulas of the modal mu-calculus (Kozen, Results on the propositional
-- mu-calculus, 1983), in mCRL2's form with `!` and `=>`, and their meaning. All statements about requirements rest on
-- `Means`.
use Rattle.std.specs.Prelude.{◌≡◌, ℕ, ◌<◌, ◌⊎◌, List, ◌∷◌, length, Bool, true, false, not, Contains, slice_index_or}
use Rattle.vpg_requirement.specs.Actions.{ActionFormula}
use Rattle.vpg_requirement.specs.Systems.{PlainSystem, successors}
use Rattle.vpg_requirement.specs.Fixpoints.{Kind, StateSet, set_of, HoldsAtFixpoint}

-- A formula. A variable counts the fixpoints that stand between it and its own (de Bruijn), so names do not matter.
pub data Formula : Type 0 where
  -- true and false
  everywhere : Formula
  nowhere : Formula
  -- !f, f && g, f || g, f => g
  negation : Formula → Formula
  conjunction : Formula → Formula → Formula
  disjunction : Formula → Formula → Formula
  implication : Formula → Formula → Formula
  -- <A>f and [A]f
  diamond : ActionFormula → Formula → Formula
  box : ActionFormula → Formula → Formula
  -- mu X. f and nu X. f, and X
  binding : Kind → Formula → Formula
  bound : ℕ → Formula

-- The formula holds at a state of a plain system, if its free variables stand for these sets. `<A>f` holds if some step
-- by such an action leads to f, and `[A]f` if each does, so also if there is none. Negation is that of the logic. A
-- fixpoint has its meaning even if its body does not grow with its variable.
abbrev pub Means : PlainSystem → List StateSet → Formula → ℕ → Type 0
Means system sets everywhere s = Unit {0}
Means system sets nowhere s = ⊥
Means system sets (negation f) s = Means system sets f s → ⊥
Means system sets (conjunction f g) s = Means system sets f s × Means system sets g s
Means system sets (disjunction f g) s = Means system sets f s ⊎ Means system sets g s
Means system sets (implication f g) s = Means system sets f s → Means system sets g s
Means system sets (diamond x f) s = (t : ℕ) × Contains (successors system x s) t × Means system sets f t
Means system sets (box x f) s = (t : ℕ) → Contains (successors system x s) t → Means system sets f t
Means system sets (binding kind f) s = HoldsAtFixpoint kind system.states (λ set. Means system (set ∷ sets) f) s
Means system sets (bound i) s = set_of sets i s ≡ true

-- Each variable has a fixpoint, with an even number of negations between the two: `!`, and the left side of `=>`. The
-- sign says whether an odd number is around the formula; that of each fixpoint around is kept, innermost first.
abbrev pub IsPositive : List Bool → Bool → Formula → Type 0
IsPositive signs sign everywhere = Unit {0}
IsPositive signs sign nowhere = Unit {0}
IsPositive signs sign (negation f) = IsPositive signs (not sign) f
IsPositive signs sign (conjunction f g) = IsPositive signs sign f × IsPositive signs sign g
IsPositive signs sign (disjunction f g) = IsPositive signs sign f × IsPositive signs sign g
IsPositive signs sign (implication f g) = IsPositive signs (not sign) f × IsPositive signs sign g
IsPositive signs sign (diamond x f) = IsPositive signs sign f
IsPositive signs sign (box x f) = IsPositive signs sign f
IsPositive signs sign (binding kind f) = IsPositive (sign ∷ signs) sign f
IsPositive signs sign (bound i) = (i < length signs) × (slice_index_or signs i false ≡ sign)
