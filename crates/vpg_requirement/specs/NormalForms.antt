-- Formulas in positive normal form, without negation, with a priority for each fixpoint, as that of parity games. Also
-- their meaning, and the normal form of a formula and of its negation, by de Morgan's laws. It is the logic of Kozen
-- 1983 again, in the form from which games are made.
use Rattle.std.specs.Prelude.{◌≡◌, ℕ, suc, ◌<◌, ◌≤◌, ◌⊎◌, ◌%◌, List, ◌∷◌, length, Bool, true, false, not, Contains, slice_index}
use Rattle.vpg_requirement.specs.Actions.{ActionFormula}
use Rattle.vpg_requirement.specs.Systems.{PlainSystem, successors}
use Rattle.vpg_requirement.specs.Fixpoints.{Kind, least, greatest, other_kind, StateSet, set_of, HoldsAtFixpoint}
use Rattle.vpg_requirement.specs.Formulas.{Formula, everywhere, nowhere, negation, conjunction, disjunction, implication, diamond, box, binding, bound}

-- A normal form. Variables count the fixpoints between them and their own, as in formulas.
pub data NormalForm : Type 0 where
  -- true and false
  met : NormalForm
  unmet : NormalForm
  both : NormalForm → NormalForm → NormalForm
  either : NormalForm → NormalForm → NormalForm
  -- <A>f and [A]f
  some_step : ActionFormula → NormalForm → NormalForm
  every_step : ActionFormula → NormalForm → NormalForm
  -- mu X. f and nu X. f, with the priority at which X is taken up again; and X
  fixpoint : Kind → ℕ → NormalForm → NormalForm
  variable : ℕ → NormalForm

-- The normal form holds at a state of a plain system, if its free variables stand for these sets. Priorities do not
-- matter here.
abbrev pub Satisfies : PlainSystem → List StateSet → NormalForm → ℕ → Type 0
Satisfies system sets met s = Unit {0}
Satisfies system sets unmet s = ⊥
Satisfies system sets (both f g) s = Satisfies system sets f s × Satisfies system sets g s
Satisfies system sets (either f g) s = Satisfies system sets f s ⊎ Satisfies system sets g s
Satisfies system sets (some_step x f) s = (t : ℕ) × Contains (successors system x s) t × Satisfies system sets f t
Satisfies system sets (every_step x f) s = (t : ℕ) → Contains (successors system x s) t → Satisfies system sets f t
Satisfies system sets (fixpoint kind p f) s =
    HoldsAtFixpoint kind system.states (λ set. Satisfies system (set ∷ sets) f) s
Satisfies system sets (variable i) s = set_of sets i s ≡ true

-- the normal form of the formula, or of its negation if the sign is true; its priorities are all 0
abbrev pub positive_form : Bool → Formula → NormalForm
positive_form false everywhere = met
positive_form true everywhere = unmet
positive_form false nowhere = unmet
positive_form true nowhere = met
positive_form sign (negation f) = positive_form (not sign) f
positive_form false (conjunction f g) = both (positive_form false f) (positive_form false g)
positive_form true (conjunction f g) = either (positive_form true f) (positive_form true g)
positive_form false (disjunction f g) = either (positive_form false f) (positive_form false g)
positive_form true (disjunction f g) = both (positive_form true f) (positive_form true g)
positive_form false (implication f g) = either (positive_form true f) (positive_form false g)
positive_form true (implication f g) = both (positive_form false f) (positive_form true g)
positive_form false (diamond x f) = some_step x (positive_form false f)
positive_form true (diamond x f) = every_step x (positive_form true f)
positive_form false (box x f) = every_step x (positive_form false f)
positive_form true (box x f) = some_step x (positive_form true f)
positive_form false (binding kind f) = fixpoint kind 0 (positive_form false f)
positive_form true (binding kind f) = fixpoint (other_kind kind) 0 (positive_form true f)
positive_form sign (bound i) = variable i

-- the negation of a normal form, with each priority one more, as in the dual of a game
abbrev pub dual_form : NormalForm → NormalForm
dual_form met = unmet
dual_form unmet = met
dual_form (both f g) = either (dual_form f) (dual_form g)
dual_form (either f g) = both (dual_form f) (dual_form g)
dual_form (some_step x f) = every_step x (dual_form f)
dual_form (every_step x f) = some_step x (dual_form f)
dual_form (fixpoint kind p f) = fixpoint (other_kind kind) (suc p) (dual_form f)
dual_form (variable i) = variable i

-- a least fixpoint has an odd priority, a greatest one an even priority
abbrev pub HasParity : Kind → ℕ → Type 0
HasParity least p = p % 2 ≡ 1
HasParity greatest p = p % 2 ≡ 0

-- Among fixpoints of these priorities, innermost first, each variable has a fixpoint, and no fixpoint between them has
-- a greater priority. A least fixpoint has an odd priority, a greatest one an even priority. None is below this one,
-- which all other situations have.
abbrev pub HasPriorities : ℕ → List ℕ → NormalForm → Type 0
HasPriorities low ps met = Unit {0}
HasPriorities low ps unmet = Unit {0}
HasPriorities low ps (both f g) = HasPriorities low ps f × HasPriorities low ps g
HasPriorities low ps (either f g) = HasPriorities low ps f × HasPriorities low ps g
HasPriorities low ps (some_step x f) = HasPriorities low ps f
HasPriorities low ps (every_step x f) = HasPriorities low ps f
HasPriorities low ps (fixpoint kind p f) = HasParity kind p × (low ≤ p) × HasPriorities low (p ∷ ps) f
HasPriorities low ps (variable i) = (i < length ps) × ((j : ℕ) → j < i → slice_index ps j ≤ slice_index ps i)
