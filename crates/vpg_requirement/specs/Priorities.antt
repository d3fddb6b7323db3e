-- The priorities that the fixpoints of a normal form get: the least ones under which its game decides it. A fixpoint
-- outranks those inside it in which its own variable is free, and no others (Niwinski, On fixed-point clones, 1986).
use Rattle.std.specs.Prelude.{ℕ, suc, ◌<◌, ◌%◌, max, Bool, false, ◌||◌, ◌==◌, if◌then◌else◌}
use Rattle.vpg_requirement.specs.Fixpoints.{Kind, least, greatest}
use Rattle.vpg_requirement.specs.Formulas.{Formula}
use Rattle.vpg_requirement.specs.NormalForms.{NormalForm, met, unmet, both, either, some_step, every_step, fixpoint, variable, positive_form}

-- whether the normal form has the variable of the fixpoint that is this many others further out
abbrev pub is_free : ℕ → NormalForm → Bool
is_free i met = false
is_free i unmet = false
is_free i (both f g) = is_free i f || is_free i g
is_free i (either f g) = is_free i f || is_free i g
is_free i (some_step x f) = is_free i f
is_free i (every_step x f) = is_free i f
is_free i (fixpoint kind p f) = is_free (suc i) f
is_free i (variable j) = j == i

-- the greatest priority of a fixpoint inside that has that variable; 0 if there is none
abbrev pub inner_priority : ℕ → NormalForm → ℕ
inner_priority i met = 0
inner_priority i unmet = 0
inner_priority i (both f g) = max (inner_priority i f) (inner_priority i g)
inner_priority i (either f g) = max (inner_priority i f) (inner_priority i g)
inner_priority i (some_step x f) = inner_priority i f
inner_priority i (every_step x f) = inner_priority i f
inner_priority i (fixpoint kind p f) = max (if is_free (suc i) f then p else 0) (inner_priority (suc i) f)
inner_priority i (variable j) = 0

-- the least number that is at least this one, and even for a greatest fixpoint, odd for a least one
abbrev pub next_priority : Kind → ℕ → ℕ
next_priority least n = if (n % 2) == 1 then n else suc n
next_priority greatest n = if (n % 2) == 0 then n else suc n

-- The normal form with new priorities. That of a fixpoint is the least of its kind's parity that is at least those of
-- the fixpoints inside it that have its variable.
abbrev pub with_priorities : NormalForm → NormalForm
with_priorities met = met
with_priorities unmet = unmet
with_priorities (both f g) = both (with_priorities f) (with_priorities g)
with_priorities (either f g) = either (with_priorities f) (with_priorities g)
with_priorities (some_step x f) = some_step x (with_priorities f)
with_priorities (every_step x f) = every_step x (with_priorities f)
with_priorities (fixpoint kind p f) =
    fixpoint kind (next_priority kind (inner_priority 0 (with_priorities f))) (with_priorities f)
with_priorities (variable j) = variable j

-- The normal form of a formula in its written form, with its priorities: the game is made from it.
abbrev pub normal_form : Formula → NormalForm
normal_form formula = with_priorities (positive_form false formula)

-- each variable has a fixpoint, if this many are around
abbrev pub IsClosedBelow : ℕ → NormalForm → Type 0
IsClosedBelow n met = Unit {0}
IsClosedBelow n unmet = Unit {0}
IsClosedBelow n (both f g) = IsClosedBelow n f × IsClosedBelow n g
IsClosedBelow n (either f g) = IsClosedBelow n f × IsClosedBelow n g
IsClosedBelow n (some_step x f) = IsClosedBelow n f
IsClosedBelow n (every_step x f) = IsClosedBelow n f
IsClosedBelow n (fixpoint kind p f) = IsClosedBelow (suc n) f
IsClosedBelow n (variable j) = j < n
