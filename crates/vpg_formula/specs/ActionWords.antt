-- The words of a text of requirements that belong to action and regular formulas. The words alone decide, as they do in
-- `Naming`. This project's own.
use Rattle.std.specs.Prelude.{ℕ, suc, List, [], ◌∷◌, map, Bool, true, false}
use Rattle.vpg_formula.specs.Words.{words_of}
use Rattle.vpg_formula.specs.Places.{place_of}
use Rattle.vpg_formula.specs.Naming.{Region, in_formula, at_variable, in_path, at_action, in_action, region_behind}
use Rattle.vpg_formula.specs.declared.acts.PlacedWord as code

-- a word: the number of words before it, or the place where it begins; and its bytes
abbrev pub PlacedWord : Type 0
PlacedWord = ℕ × List ℕ

-- whether a word of this region belongs to an action or regular formula
abbrev pub is_of_actions : Region → Bool
is_of_actions in_formula = false
is_of_actions at_variable = false
is_of_actions (in_path m) = true
is_of_actions at_action = true
is_of_actions (in_action n) = true

-- the later words, and in front of them this one if the flag is set
abbrev pub with_word : Bool → ℕ → List ℕ → List PlacedWord → List PlacedWord
with_word false k w later = later
with_word true k w later = (k, w) ∷ later

-- the words of action and regular formulas among the words from there on, after this many words
abbrev pub action_words_from : Region → ℕ → List (List ℕ) → List PlacedWord
action_words_from region k [] = []
action_words_from region k (w ∷ ws) =
    with_word (is_of_actions region) k w (action_words_from (region_behind region w) (suc k) ws)

-- the word, with the place where it begins in the text
abbrev pub placed : List ℕ → PlacedWord → PlacedWord
placed text w = (place_of text w.0, w.1)

-- The words of a text of requirements that belong to action and regular formulas, signs and `true` among them, in
-- order, each with the place of its first byte.
abbrev pub action_words : List ℕ → List PlacedWord
action_words text = map (placed text) (action_words_from in_formula 0 (words_of text))

-- the words of the code, each with its place
abbrev pub placed_words : List code.PlacedWord → List PlacedWord
placed_words ws = map (λ w. (w.at, w.bytes.now)) ws
