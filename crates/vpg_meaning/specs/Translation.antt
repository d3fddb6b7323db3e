-- The formula of a written requirement: names of variables become numbers, words become their formulas, and regular
-- formulas fixpoints, as mCRL2 defines them. Earlier entries are put in place of their names.
use Rattle.std.specs.Prelude.{ℕ, suc, List, [], ◌∷◌, true, false, if◌then◌else◌, bytes_eq}
use Rattle.vpg_requirement.specs.Fixpoints.{Kind, least, greatest}
use Rattle.vpg_requirement.specs.Formulas as formulas
use Rattle.vpg_requirement.specs.Formulas.{Formula, everywhere, nowhere, diamond, box, bound}
use Rattle.vpg_requirement.specs.Words as words
use Rattle.vpg_requirement.specs.Words.{shift}
use Rattle.vpg_formula.specs.Regular.{Regular, every_action, no_action, action, other_than, both_of, either_of, sequence, choice, repeated, repeated_once}
use Rattle.vpg_formula.specs.Written.{Prefix, negated, some_path, every_path, always, never, possibly, inevitably, again_and_again, after, Fixpoint, mu, nu, Written, constant, named, deadlock_free, can, will, prefixed, conjunction, disjunction, implication, binding}
use Rattle.vpg_formula.specs.Requirements.{Entry}
use Rattle.vpg_meaning.specs.Labels.{actions_of}

-- `<R>f`: `<R.S>f` is `<R><S>f`, `<R+S>f` is `<R>f || <S>f`, `<R*>f` is `mu X. f || <R>X`, and `<R+>f` is `<R><R*>f`.
abbrev pub diamond_along : List (List ℕ) → Regular → Formula → Formula
diamond_along names every_action f = diamond (actions_of names every_action) f
diamond_along names no_action f = diamond (actions_of names no_action) f
diamond_along names (action label) f = diamond (actions_of names (action label)) f
diamond_along names (other_than x) f = diamond (actions_of names (other_than x)) f
diamond_along names (both_of x y) f = diamond (actions_of names (both_of x y)) f
diamond_along names (either_of x y) f = diamond (actions_of names (either_of x y)) f
diamond_along names (sequence x y) f = diamond_along names x (diamond_along names y f)
diamond_along names (choice x y) f = formulas.disjunction (diamond_along names x f) (diamond_along names y f)
diamond_along names (repeated x) f =
    formulas.binding least (formulas.disjunction (shift 0 f) (diamond_along names x (bound 0)))
diamond_along names (repeated_once x) f =
    diamond_along names x
    (formulas.binding least (formulas.disjunction (shift 0 f) (diamond_along names x (bound 0))))

-- `[R]f`: `[R.S]f` is `[R][S]f`, `[R+S]f` is `[R]f && [S]f`, `[R*]f` is `nu X. f && [R]X`, and `[R+]f` is `[R][R*]f`.
abbrev pub box_along : List (List ℕ) → Regular → Formula → Formula
box_along names every_action f = box (actions_of names every_action) f
box_along names no_action f = box (actions_of names no_action) f
box_along names (action label) f = box (actions_of names (action label)) f
box_along names (other_than x) f = box (actions_of names (other_than x)) f
box_along names (both_of x y) f = box (actions_of names (both_of x y)) f
box_along names (either_of x y) f = box (actions_of names (either_of x y)) f
box_along names (sequence x y) f = box_along names x (box_along names y f)
box_along names (choice x y) f = formulas.conjunction (box_along names x f) (box_along names y f)
box_along names (repeated x) f =
    formulas.binding greatest (formulas.conjunction (shift 0 f) (box_along names x (bound 0)))
box_along names (repeated_once x) f =
    box_along names x
    (formulas.binding greatest (formulas.conjunction (shift 0 f) (box_along names x (bound 0))))

-- the formula of the entry of this name; if there is none, `false`
abbrev pub entry_formula : List (List ℕ × Formula) → List ℕ → Formula
entry_formula [] x = nowhere
entry_formula (e ∷ entries) x = if bytes_eq x e.0 then e.1 else entry_formula entries x

-- The formula of a name inside fixpoints of these names, innermost first: the variable of the innermost fixpoint of
-- that name, counted from here on, or otherwise an earlier entry.
abbrev pub formula_named : List (List ℕ × Formula) → List (List ℕ) → ℕ → List ℕ → Formula
formula_named entries [] i x = entry_formula entries x
formula_named entries (y ∷ scope) i x = if bytes_eq x y then bound i else formula_named entries scope (suc i) x

abbrev pub kind_of : Fixpoint → Kind
kind_of mu = least
kind_of nu = greatest

-- a formula with this in front of it
abbrev pub formula_behind : List (List ℕ) → Prefix → Formula → Formula
formula_behind names negated f = formulas.negation f
formula_behind names (some_path x) f = diamond_along names x f
formula_behind names (every_path x) f = box_along names x f
formula_behind names always f = words.always f
formula_behind names never f = words.never f
formula_behind names possibly f = words.possibly f
formula_behind names inevitably f = words.inevitably f
formula_behind names again_and_again f = words.again_and_again f
formula_behind names (after x) f = words.after (actions_of names x) f

-- The formula of a written requirement, if actions have these names, inside fixpoints of these names, innermost first,
-- after these entries.
abbrev pub formula_of : List (List ℕ) → List (List ℕ × Formula) → List (List ℕ) → Written → Formula
formula_of names entries scope (constant true) = everywhere
formula_of names entries scope (constant false) = nowhere
formula_of names entries scope (named x) = formula_named entries scope 0 x
formula_of names entries scope deadlock_free = words.deadlock_free
formula_of names entries scope (can x) = words.can (actions_of names x)
formula_of names entries scope (will x) = words.will (actions_of names x)
formula_of names entries scope (prefixed prefix f) = formula_behind names prefix (formula_of names entries scope f)
formula_of names entries scope (conjunction f g) =
    formulas.conjunction (formula_of names entries scope f) (formula_of names entries scope g)
formula_of names entries scope (disjunction f g) =
    formulas.disjunction (formula_of names entries scope f) (formula_of names entries scope g)
formula_of names entries scope (implication f g) =
    formulas.implication (formula_of names entries scope f) (formula_of names entries scope g)
formula_of names entries scope (binding kind x f) =
    formulas.binding (kind_of kind) (formula_of names entries (x ∷ scope) f)

-- the formulas of entries by their names, the last one first, after those of earlier ones
abbrev pub formulas_behind : List (List ℕ) → List (List ℕ × Formula) → List Entry → List (List ℕ × Formula)
formulas_behind names earlier [] = earlier
formulas_behind names earlier (e ∷ entries) =
    formulas_behind names ((e.name, formula_of names earlier [] e.formula) ∷ earlier) entries

-- The formulas of entries in their order, after those of earlier ones by their names.
abbrev pub formulas_in_order : List (List ℕ) → List (List ℕ × Formula) → List Entry → List Formula
formulas_in_order names earlier [] = []
formulas_in_order names earlier (e ∷ entries) =
    formula_of names earlier [] e.formula ∷
    formulas_in_order names ((e.name, formula_of names earlier [] e.formula) ∷ earlier) entries

-- The formulas of all entries by their names, the last one first. An entry may name earlier ones.
abbrev pub formulas_of : List (List ℕ) → List Entry → List (List ℕ × Formula)
formulas_of names entries = formulas_behind names [] entries
