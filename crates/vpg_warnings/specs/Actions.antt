-- The actions of requirements that no transition has, and the actions of transitions that no requirement names. This
-- project's own.
use Rattle.std.specs.Prelude.{ℕ, Bool, false, not, ◌||◌, if◌then◌else◌, List, map, filter, codes, bytes_eq, Option, Some, None}
use Rattle.std.specs.List.{list_any}
use Rattle.vpg_formula.specs.Regular.{Label, label_of}
use Rattle.vpg_formula.specs.ActionWords.{PlacedWord, action_words}
use Rattle.vpg_meaning.specs.Labels.{is_named}
use Rattle.vpg_warnings.specs.Numbers.{numbers_from}

-- whether a label, if there is one, names an action of this name
abbrev pub label_names : Option Label → List ℕ → Bool
label_names None name = false
label_names (Some label) name = is_named label name

-- the label that a word of an action formula is: `true` and `false` are none
abbrev pub action_label : List ℕ → Option Label
action_label word =
    if bytes_eq word (codes "true") || bytes_eq word (codes "false") then None else label_of word

-- whether a label, if there is one, names none of the actions of these names
abbrev pub names_none : List (List ℕ) → Option Label → Bool
names_none names None = false
names_none names (Some label) = not (list_any (is_named label) names)

-- The words of a text of requirements that name an action that is none of these: each with its place, in order.
abbrev pub unknown_actions : List (List ℕ) → List ℕ → List PlacedWord
unknown_actions names text = filter (λ w. names_none names (action_label w.1)) (action_words text)

-- whether a word of an action formula stands for more actions than it names: `true`, and `!`, which is all but some
abbrev pub is_general : List ℕ → Bool
is_general word = bytes_eq word (codes "true") || bytes_eq word (codes "!")

-- whether words of action formulas name the action of this name, or stand for all
abbrev pub is_mentioned : List PlacedWord → List ℕ → Bool
is_mentioned words name = list_any (λ w. is_general w.1 || label_names (action_label w.1) name) words

-- The numbers of the actions of these names that a text of requirements does not mention, in order.
abbrev pub unnamed_actions : List (List ℕ) → List ℕ → List ℕ
unnamed_actions names text = numbers_from 0 (map (λ name. not (is_mentioned (action_words text) name)) names)
