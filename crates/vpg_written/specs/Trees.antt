-- Formulas as trees of marks, and the normal form of a tree. This project's own.
use Rattle.std.specs.Prelude.{ℕ, zero, suc, List, [], ◌∷◌, ◌++◌, Option, Some, None, Bool, true, false, not, if◌then◌else◌, bytes_eq, slice_index_or}
use Rattle.vpg_requirement.specs.Actions as numbered
use Rattle.vpg_requirement.specs.Actions.{ActionFormula}
use Rattle.vpg_requirement.specs.NormalForms.{NormalForm, fixpoint, variable}
use Rattle.vpg_formula.specs.Regular.{Regular, every_action, no_action, action, other_than, both_of, either_of, sequence, choice, repeated, repeated_once}
use Rattle.vpg_formula.specs.Written.{Prefix, negated, some_path, every_path, always, never, possibly, inevitably, again_and_again, after, Written, constant, named, deadlock_free, can, will, prefixed, conjunction, disjunction, implication, binding}
use Rattle.vpg_formula.specs.Marks.{prefix_mark, binder_mark}
use Rattle.vpg_formula.specs.declared.mark.Mark.{Mark}
use Rattle.vpg_formula.specs.declared.mark.Mark.TheVariants as marks
use Rattle.vpg_meaning.specs.Labels.{none_of_them, actions_named}
use Rattle.vpg_written.specs.Shapes.{constant_form, joined_form, step_form, kind_for, star, any_step, coming, inevitable}

-- A mark and its operands, the last one last: a mark with one operand has nothing as its first.
pub data Tree : Type 0 where
  nothing : Tree
  node : Mark → Tree → Tree → Tree

abbrev pub leaf : Mark → Tree
leaf m = node m nothing nothing

-- the marks of a tree, operands in front
abbrev pub tree_marks : Tree → List Mark
tree_marks nothing = []
tree_marks (node m s t) = tree_marks s ++ (tree_marks t ++ m ∷ [])

-- ---- trees of formulas

abbrev pub regular_tree : Regular → Tree
regular_tree every_action = leaf marks.EveryAction
regular_tree no_action = leaf marks.NoAction
regular_tree (action label) = leaf (marks.Action label)
regular_tree (other_than x) = node marks.OtherThan nothing (regular_tree x)
regular_tree (both_of x y) = node marks.BothOf (regular_tree x) (regular_tree y)
regular_tree (either_of x y) = node marks.EitherOf (regular_tree x) (regular_tree y)
regular_tree (sequence x y) = node marks.Sequence (regular_tree x) (regular_tree y)
regular_tree (choice x y) = node marks.Choice (regular_tree x) (regular_tree y)
regular_tree (repeated x) = node marks.Repeated nothing (regular_tree x)
regular_tree (repeated_once x) = node marks.RepeatedOnce nothing (regular_tree x)

-- the regular formula in a prefix
abbrev pub prefix_tree : Prefix → Tree
prefix_tree negated = nothing
prefix_tree (some_path x) = regular_tree x
prefix_tree (every_path x) = regular_tree x
prefix_tree always = nothing
prefix_tree never = nothing
prefix_tree possibly = nothing
prefix_tree inevitably = nothing
prefix_tree again_and_again = nothing
prefix_tree (after x) = regular_tree x

abbrev pub tree_of : Written → Tree
tree_of (constant true) = leaf marks.True
tree_of (constant false) = leaf marks.False
tree_of (named x) = leaf (marks.Named x)
tree_of deadlock_free = leaf marks.DeadlockFree
tree_of (can x) = node marks.Can nothing (regular_tree x)
tree_of (will x) = node marks.Will nothing (regular_tree x)
tree_of (prefixed prefix f) = node (prefix_mark prefix) (prefix_tree prefix) (tree_of f)
tree_of (conjunction f g) = node marks.And (tree_of f) (tree_of g)
tree_of (disjunction f g) = node marks.Or (tree_of f) (tree_of g)
tree_of (implication f g) = node marks.Implies (tree_of f) (tree_of g)
tree_of (binding kind x f) = node (binder_mark kind x) nothing (tree_of f)

-- ---- the meaning of trees

-- The actions of a tree, if actions have these names: those of an action formula, and for `will A` those of `!A`. No
-- other tree has any.
abbrev pub actions_in : List (List ℕ) → Tree → ActionFormula
actions_in names nothing = none_of_them
actions_in names (node marks.EveryAction s t) = numbered.every_action
actions_in names (node (marks.Action label) s t) = actions_named label 0 names
actions_in names (node marks.OtherThan s t) = numbered.other_than (actions_in names t)
actions_in names (node marks.Will s t) = numbered.other_than (actions_in names t)
actions_in names (node marks.BothOf s t) = numbered.both_of (actions_in names s) (actions_in names t)
actions_in names (node marks.EitherOf s t) = numbered.either_of (actions_in names s) (actions_in names t)
actions_in names (node m s t) = none_of_them

-- a regular formula in front of a form, for each path or for some
abbrev pub along : List (List ℕ) → Bool → Tree → NormalForm → NormalForm
along names every nothing f = step_form every none_of_them f
along names every (node marks.Sequence s t) f = along names every s (along names every t f)
along names every (node marks.Choice s t) f = joined_form every (along names every s f) (along names every t f)
along names every (node marks.Repeated s t) f = star every (along names every t (variable 0)) f
along names every (node marks.RepeatedOnce s t) f =
    along names every t (star every (along names every t (variable 0)) f)
along names every (node m s t) f = step_form every (actions_in names (node m s t)) f

-- the names of the fixpoints around, innermost first; a fixpoint made from a word or a star has none
abbrev pub Around : Type 0
Around = List (Option (List ℕ))

-- the number of the variable of this name, counted from here on
abbrev pub place_of : Around → ℕ → List ℕ → Option ℕ
place_of [] i x = None
place_of (None ∷ around) i x = place_of around (suc i) x
place_of (Some y ∷ around) i x = if bytes_eq x y then Some i else place_of around (suc i) x

-- the forms of names that no fixpoint binds, by the sign
abbrev pub Earlier : Type 0
Earlier = List ℕ → Bool → NormalForm

abbrev pub form_named : Option ℕ → NormalForm → NormalForm
form_named None f = f
form_named (Some i) f = variable i

-- The normal form of a tree, or of its negation if the sign is true.
abbrev pub tree_form : List (List ℕ) → Earlier → Bool → Around → Tree → NormalForm
tree_form names earlier sign around nothing = constant_form sign
tree_form names earlier sign around (node marks.True s t) = constant_form (not sign)
tree_form names earlier sign around (node (marks.Named x) s t) =
    form_named (place_of around 0 x) (earlier x sign)
tree_form names earlier sign around (node marks.DeadlockFree s t) =
    star (not sign) (any_step (not sign)) (step_form sign numbered.every_action (constant_form (not sign)))
tree_form names earlier sign around (node marks.Can s t) =
    step_form sign (actions_in names t) (constant_form (not sign))
tree_form names earlier sign around (node marks.Will s t) =
    fixpoint (kind_for sign) 0 (coming sign (numbered.other_than (actions_in names t)))
tree_form names earlier sign around (node marks.Not s t) = tree_form names earlier (not sign) around t
tree_form names earlier sign around (node marks.SomePath s t) =
    along names sign s (tree_form names earlier sign around t)
tree_form names earlier sign around (node marks.EveryPath s t) =
    along names (not sign) s (tree_form names earlier sign around t)
tree_form names earlier sign around (node marks.Always s t) =
    star (not sign) (any_step (not sign)) (tree_form names earlier sign around t)
tree_form names earlier sign around (node marks.Never s t) =
    star (not sign) (any_step (not sign)) (tree_form names earlier (not sign) around t)
tree_form names earlier sign around (node marks.Possibly s t) =
    star sign (any_step sign) (tree_form names earlier sign around t)
tree_form names earlier sign around (node marks.Inevitably s t) =
    inevitable sign (tree_form names earlier sign around t)
tree_form names earlier sign around (node marks.AgainAndAgain s t) =
    star (not sign) (any_step (not sign)) (inevitable sign (tree_form names earlier sign around t))
tree_form names earlier sign around (node marks.After s t) =
    star (not sign) (any_step (not sign))
    (step_form (not sign) (actions_in names s) (tree_form names earlier sign around t))
tree_form names earlier sign around (node marks.And s t) =
    joined_form (not sign) (tree_form names earlier sign around s) (tree_form names earlier sign around t)
tree_form names earlier sign around (node marks.Or s t) =
    joined_form sign (tree_form names earlier sign around s) (tree_form names earlier sign around t)
tree_form names earlier sign around (node marks.Implies s t) =
    joined_form sign (tree_form names earlier (not sign) around s) (tree_form names earlier sign around t)
tree_form names earlier sign around (node (marks.Least x) s t) =
    fixpoint (kind_for sign) 0 (tree_form names earlier sign (Some x ∷ around) t)
tree_form names earlier sign around (node (marks.Greatest x) s t) =
    fixpoint (kind_for (not sign)) 0 (tree_form names earlier sign (Some x ∷ around) t)
tree_form names earlier sign around (node m s t) = constant_form sign

-- ---- entries

-- an entry: its name, and the tree of its formula
abbrev pub TreeEntry : Type 0
TreeEntry = List ℕ × Tree

abbrev pub tree_at : List TreeEntry → ℕ → Tree
tree_at entries n = (slice_index_or entries n ([], nothing)).1

abbrev pub name_at : List TreeEntry → ℕ → List ℕ
name_at entries n = (slice_index_or entries n ([], nothing)).0

-- the forms of names in front of the entry of this number: that of the latest entry of the name
abbrev pub before : List (List ℕ) → List TreeEntry → ℕ → Earlier
before names entries zero x sign = constant_form sign
before names entries (suc n) x sign =
    if bytes_eq x (name_at entries n)
    then tree_form names (before names entries n) sign [] (tree_at entries n) else before names entries n x sign
