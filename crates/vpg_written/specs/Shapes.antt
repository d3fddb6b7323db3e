-- Normal forms for each step or for some step: the two are one another's negation. This project's own.
use Rattle.std.specs.Prelude.{ℕ, suc, Bool, true, false, not}
use Rattle.vpg_requirement.specs.Actions.{ActionFormula, every_action}
use Rattle.vpg_requirement.specs.Fixpoints.{Kind, least, greatest}
use Rattle.vpg_requirement.specs.NormalForms.{NormalForm, met, unmet, both, either, some_step, every_step, fixpoint, variable}
use Rattle.vpg_requirement.specs.Words.{shift_variable}

-- `true` or `false`
abbrev pub constant_form : Bool → NormalForm
constant_form true = met
constant_form false = unmet

-- both of two, or one of them
abbrev pub joined_form : Bool → NormalForm → NormalForm → NormalForm
joined_form true f g = both f g
joined_form false f g = either f g

-- each step by such an action leads to such a state, or some step does
abbrev pub step_form : Bool → ActionFormula → NormalForm → NormalForm
step_form true x f = every_step x f
step_form false x f = some_step x f

abbrev pub kind_for : Bool → Kind
kind_for true = greatest
kind_for false = least

-- the normal form with one more fixpoint outside this many others (de Bruijn 1972)
abbrev pub shift_form : ℕ → NormalForm → NormalForm
shift_form k met = met
shift_form k unmet = unmet
shift_form k (both f g) = both (shift_form k f) (shift_form k g)
shift_form k (either f g) = either (shift_form k f) (shift_form k g)
shift_form k (some_step x f) = some_step x (shift_form k f)
shift_form k (every_step x f) = every_step x (shift_form k f)
shift_form k (fixpoint kind p f) = fixpoint kind p (shift_form (suc k) f)
shift_form k (variable i) = variable (shift_variable k i)

-- `R*` in front of a form: nu X. f && [R]X, or mu X. f || <R>X, from the form of [R]X or <R>X
abbrev pub star : Bool → NormalForm → NormalForm → NormalForm
star every again f = fixpoint (kind_for every) 0 (joined_form every (shift_form 0 f) again)

-- one step by any action, and the variable
abbrev pub any_step : Bool → NormalForm
any_step every = step_form every every_action (variable 0)

-- can true && [A]X, or its negation
abbrev pub coming : Bool → ActionFormula → NormalForm
coming sign x =
    joined_form (not sign) (step_form sign every_action (constant_form (not sign)))
    (step_form (not sign) x (variable 0))

-- mu X. f || (can true && [true]X), or its negation from that of f
abbrev pub inevitable : Bool → NormalForm → NormalForm
inevitable sign f = fixpoint (kind_for sign) 0 (joined_form sign (shift_form 0 f) (coming sign every_action))
