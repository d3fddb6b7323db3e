-- The actions that an action formula admits, by their names, and the action formula over numbered actions that it
-- stands for. Action formulas are mCRL2's, without data; the comparison of names is this project's own.
use Rattle.std.specs.Prelude.{ℕ, suc, List, [], ◌∷◌, filter, Bool, true, false, not, ◌&&◌, ◌||◌, if◌then◌else◌, bytes_eq, slice_index_or}
use Rattle.vpg_requirement.specs.Actions as numbered
use Rattle.vpg_requirement.specs.Actions.{ActionFormula, permits}
use Rattle.vpg_formula.specs.Words.{is_blank}
use Rattle.vpg_formula.specs.Regular.{Label, Regular, every_action, no_action, action, other_than, both_of, either_of, sequence, choice, repeated, repeated_once}

-- a text without its blanks
abbrev pub without_blanks : List ℕ → List ℕ
without_blanks text = filter (λ b. not (is_blank b)) text

-- Whether a label names the action: in quotes by exactly its bytes, and without quotes by its bytes apart from blanks.
abbrev pub is_named : Label → List ℕ → Bool
is_named label name =
    if label.quoted then bytes_eq label.name name else bytes_eq (without_blanks label.name) (without_blanks name)

-- Whether an action formula admits the action of this name. A regular formula that is no action formula admits none.
abbrev pub admits : Regular → List ℕ → Bool
admits every_action name = true
admits no_action name = false
admits (action label) name = is_named label name
admits (other_than x) name = not (admits x name)
admits (both_of x y) name = admits x name && admits y name
admits (either_of x y) name = admits x name || admits y name
admits (sequence x y) name = false
admits (choice x y) name = false
admits (repeated x) name = false
admits (repeated_once x) name = false

-- the name of a numbered action
abbrev pub name_at : List (List ℕ) → ℕ → List ℕ
name_at names a = slice_index_or names a []

-- no action
abbrev pub none_of_them : ActionFormula
none_of_them = numbered.other_than numbered.every_action

-- the actions that a label names, among those with these names, numbered from here on
abbrev pub actions_named : Label → ℕ → List (List ℕ) → ActionFormula
actions_named label a [] = none_of_them
actions_named label a (name ∷ names) =
    if is_named label name then numbered.either_of (numbered.action a) (actions_named label (suc a) names)
    else actions_named label (suc a) names

-- The action formula over numbers, if actions have these names in the order of their numbers.
abbrev pub actions_of : List (List ℕ) → Regular → ActionFormula
actions_of names every_action = numbered.every_action
actions_of names no_action = none_of_them
actions_of names (action label) = actions_named label 0 names
actions_of names (other_than x) = numbered.other_than (actions_of names x)
actions_of names (both_of x y) = numbered.both_of (actions_of names x) (actions_of names y)
actions_of names (either_of x y) = numbered.either_of (actions_of names x) (actions_of names y)
actions_of names (sequence x y) = none_of_them
actions_of names (choice x y) = none_of_them
actions_of names (repeated x) = none_of_them
actions_of names (repeated_once x) = none_of_them
