-- The words that stand for formulas, and their meaning on the graph of a system. `always`, `possibly` and `inevitably`
-- are AG, EF and AF of the branching-time logic CTL (Clarke, Emerson and Sistla 1986), over runs that may also stop;
-- the others are this project's own.
use Rattle.std.specs.Prelude.{ℕ, suc, ◌<◌, ◌↔◌, [], false, if◌then◌else◌, nat_lt, Contains}
use Rattle.vpg_requirement.specs.Actions.{ActionFormula, every_action, other_than}
use Rattle.vpg_requirement.specs.Systems.{PlainSystem, IsClosedSystem, successors}
use Rattle.vpg_requirement.specs.Fixpoints.{least, greatest}
use Rattle.vpg_requirement.specs.Formulas.{Formula, everywhere, nowhere, negation, conjunction, disjunction, implication, diamond, box, binding, bound, Means, IsPositive}

-- the number of a variable with one more fixpoint outside this many others: those further out count one more
abbrev pub shift_variable : ℕ → ℕ → ℕ
shift_variable k i = if nat_lt i k then i else suc i

-- the formula with one more fixpoint there: its variables, shifted (de Bruijn 1972)
abbrev pub shift : ℕ → Formula → Formula
shift k everywhere = everywhere
shift k nowhere = nowhere
shift k (negation f) = negation (shift k f)
shift k (conjunction f g) = conjunction (shift k f) (shift k g)
shift k (disjunction f g) = disjunction (shift k f) (shift k g)
shift k (implication f g) = implication (shift k f) (shift k g)
shift k (diamond x f) = diamond x (shift k f)
shift k (box x f) = box x (shift k f)
shift k (binding kind f) = binding kind (shift (suc k) f)
shift k (bound i) = bound (shift_variable k i)

-- ---- the words

-- an action that is permitted is possible now: <A>true
abbrev pub can : ActionFormula → Formula
can x = diamond x everywhere

-- now and for ever, whatever happens: nu X. F && [true]X
abbrev pub always : Formula → Formula
always f = binding greatest (conjunction (shift 0 f) (box every_action (bound 0)))

-- at no time: always !F
abbrev pub never : Formula → Formula
never f = always (negation f)

-- some way leads there: mu X. F || <true>X
abbrev pub possibly : Formula → Formula
possibly f = binding least (disjunction (shift 0 f) (diamond every_action (bound 0)))

-- each run comes to it, and one that stops before has not: mu X. F || (can true && [true]X)
abbrev pub inevitably : Formula → Formula
inevitably f = binding least (disjunction (shift 0 f) (conjunction (can every_action) (box every_action (bound 0))))

-- each run comes to it again and again: always inevitably F
abbrev pub again_and_again : Formula → Formula
again_and_again f = always (inevitably f)

-- each run comes to such an action: mu X. can true && [!A]X
abbrev pub will : ActionFormula → Formula
will x = binding least (conjunction (can every_action) (box (other_than x) (bound 0)))

-- whenever such an action has happened it holds then: always [A]F
abbrev pub after : ActionFormula → Formula → Formula
after x f = always (box x f)

-- no run stops: always can true
abbrev pub deadlock_free : Formula
deadlock_free = always (can every_action)

-- ---- runs

-- a step leads from the first state to the second
abbrev pub IsNext : PlainSystem → ℕ → ℕ → Type 0
IsNext system s t = Contains (successors system every_action s) t

-- steps lead from the first state to the second, or it is the same state
pub data Leads (system : PlainSystem) : ℕ → ℕ → Type 0 where
  stay : {s : ℕ} → Leads system s s
  go : {s t u : ℕ} → IsNext system s t → Leads system t u → Leads system s u

-- Each run comes to such a state: it is one, or there is a step, and from the target of each step each run comes to
-- one. So a run that stops before has not come to one, and none puts it off for ever.
pub data ComesTo (system : PlainSystem) (P : ℕ → Type 0) : ℕ → Type 0 where
  come : {s : ℕ} → P s → ComesTo system P s
  later : {s : ℕ} → (t : ℕ) × IsNext system s t → ((t : ℕ) → IsNext system s t → ComesTo system P t) →
      ComesTo system P s

-- Each run comes to such an action: there is a step, and from the target of each step by another action each run comes
-- to one.
pub data ComesToAction (system : PlainSystem) (x : ActionFormula) : ℕ → Type 0 where
  forced : {s : ℕ} → (t : ℕ) × IsNext system s t →
      ((t : ℕ) → Contains (successors system (other_than x) s) t → ComesToAction system x t) → ComesToAction system x s

-- the meaning of each word at a state, for a formula that stands alone and for an action formula
pub record WordsMean (system : PlainSystem) (f : Formula) (x : ActionFormula) (s : ℕ) : Type 0 where
  pub can_means : Means system [] (can x) s ↔ ((t : ℕ) × Contains (successors system x s) t)
  pub always_means : Means system [] (always f) s ↔ ((t : ℕ) → Leads system s t → Means system [] f t)
  pub never_means : Means system [] (never f) s ↔ ((t : ℕ) → Leads system s t → Means system [] f t → ⊥)
  pub possibly_means : Means system [] (possibly f) s ↔ ((t : ℕ) × Leads system s t × Means system [] f t)
  pub inevitably_means : Means system [] (inevitably f) s ↔ ComesTo system (Means system [] f) s
  pub again_and_again_means : Means system [] (again_and_again f) s ↔
      ((t : ℕ) → Leads system s t → ComesTo system (Means system [] f) t)
  pub will_means : Means system [] (will x) s ↔ ComesToAction system x s
  pub after_means : Means system [] (after x f) s ↔
      ((t u : ℕ) → Leads system s t → Contains (successors system x t) u → Means system [] f u)
  pub deadlock_free_means : Means system [] deadlock_free s ↔ ((t : ℕ) → Leads system s t → (u : ℕ) × IsNext system t u)

-- Each word means what it says, at each state of a system whose steps lead to states.
abbrev pub WordsMeanWhatTheySay : Type 0
WordsMeanWhatTheySay =
    (system : PlainSystem) (f : Formula) (x : ActionFormula) → IsClosedSystem system → IsPositive [] false f →
    (s : ℕ) → s < system.states → WordsMean system f x s
