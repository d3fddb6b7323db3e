-- Lists that a loop makes, piece by piece.
use Rattle.std.proofs.Common.{◌≡◌, ℕ, ◌+◌, ◌<◌, ◌≤◌, List, [], ◌∷◌, ◌++◌, length, drop, get_or, sym, ap, ◌∙◌, append_assoc, append-nil}
use Rattle.std.proofs.lemmas.List.{at_drop_more, at_drop_all}

-- what is made so far, and the pieces of the rest, are all: one more piece
pub piece_more : {A X : Type 0} (F : List A → List X) (piece : A → List A → List X) → ((a : A) (rest : List A) → F (a ∷ rest) ≡ piece a rest ++ F rest) →
    (made more all : List X) (xs : List A) (i : ℕ) (d : A) → i < length xs → more ≡ made ++ piece (get_or xs i d) (drop (i + 1) xs) → made ++ F (drop i xs) ≡ all →
    more ++ F (drop (i + 1) xs) ≡ all
piece_more F piece h made more all xs i d l e so_far =
    ap (λ m. m ++ F (drop (i + 1) xs)) e
    ∙ (append_assoc made (piece (get_or xs i d) (drop (i + 1) xs)) (F (drop (i + 1) xs))
    ∙ (ap (λ r. made ++ r) (sym (at_drop_more F xs i d l ∙ h (get_or xs i d) (drop (i + 1) xs))) ∙ so_far))

-- nothing is left
pub piece_end : {A X : Type 0} (F : List A → List X) → F [] ≡ [] → (made all : List X) (xs : List A) (i : ℕ) → length xs ≤ i → made ++ F (drop i xs) ≡ all → made ≡ all
piece_end F z made all xs i l so_far =
    sym (append-nil made) ∙ (ap (λ r. made ++ r) (sym (at_drop_all F xs i l ∙ z)) ∙ so_far)
