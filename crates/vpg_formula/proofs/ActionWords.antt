-- The words of action formulas, word by word.
use Rattle.std.proofs.Common.{◌≡◌, ℕ, suc, ◌+◌, Bool, true, false, List, [], ◌∷◌, ◌++◌, map, append_assoc, refl, sym, ap, ◌∙◌}
use Rattle.vpg_formula.specs.Places.{place_of}
use Rattle.vpg_formula.specs.Naming.{Region, region_behind}
use Rattle.vpg_formula.specs.ActionWords.{PlacedWord, is_of_actions, with_word, action_words_from, placed}

-- a word in front, and then the others
in_front : (text : List ℕ) (b : Bool) (k : ℕ) (w : List ℕ) (later : List PlacedWord) →
    map (placed text) (with_word b k w later) ≡ with_word b (place_of text k) w [] ++ map (placed text) later
in_front text true k w later = refl
in_front text false k w later = refl

-- one word more is looked at
pub one_word : (text : List ℕ) (r after : Region) (k next : ℕ) (w : List ℕ) (words ws rest : List (List ℕ))
    (found more whole : List PlacedWord) → words ≡ w ∷ ws → rest ≡ ws → next ≡ suc k → after ≡ region_behind r w →
    more ≡ found ++ with_word (is_of_actions r) (place_of text k) w [] →
    found ++ map (placed text) (action_words_from r k words) ≡ whole →
    more ++ map (placed text) (action_words_from after next rest) ≡ whole
one_word text r after k next w words ws rest found more whole are left one region put reads =
    rw (left, one, region, put) (append_assoc found (with_word (is_of_actions r) (place_of text k) w []) (map (placed text) (action_words_from (region_behind r w) (suc k) ws))
    ∙ (ap (λ (ps : List PlacedWord). found ++ ps) (sym (in_front text (is_of_actions r) k w (action_words_from (region_behind r w) (suc k) ws)))
    ∙ (ap (λ (vs : List (List ℕ)). found ++ map (placed text) (action_words_from r k vs)) (sym are) ∙ reads)))
