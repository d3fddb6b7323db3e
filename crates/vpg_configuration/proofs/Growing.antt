-- A text that grows by a piece for each element of a list.
use Rattle.std.proofs.Common.{◌≡◌, ℕ, ◌+◌, ◌<◌, ◌≤◌, List, ◌++◌, length, map, take, get_or, flat_map, sym, ap, ◌∙◌}
use Rattle.std.proofs.lemmas.List.{flat_map_more, take_more, take_all}
use Rattle.std.proofs.lemmas.List.Folds.{flat_map-map}

-- one more of them
grown_each : {X : Type 0} (f : X → List ℕ) (xs : List X) (i : ℕ) (d : X) (a b c : List ℕ) → i < length xs → b ≡ a ++ flat_map f (take i xs) → c ≡ b ++ f (get_or xs i d) →
    c ≡ a ++ flat_map f (take (i + 1) xs)
grown_each f xs i d a b c l e g =
    g ∙ (ap (λ (s : List ℕ). s ++ f (get_or xs i d)) e ∙ (flat_map_more f a (take i xs) (get_or xs i d) ∙ ap (λ t. a ++ flat_map f t) (sym (take_more xs i d l))))

-- the same of what each element is taken for
pub grown_mapped : {X Y : Type 0} (f : Y → List ℕ) (v : X → Y) (xs : List X) (i : ℕ) (d : X) (a b c : List ℕ) → i < length xs → b ≡ a ++ flat_map f (map v (take i xs)) →
    c ≡ b ++ f (v (get_or xs i d)) → c ≡ a ++ flat_map f (map v (take (i + 1) xs))
grown_mapped f v xs i d a b c l e g =
    grown_each (λ x. f (v x)) xs i d a b c l (e ∙ ap (λ (t : List ℕ). a ++ t) (flat_map-map f v (take i xs))) g
    ∙ ap (λ (t : List ℕ). a ++ t) (sym (flat_map-map f v (take (i + 1) xs)))

-- all of them
pub grown_all_mapped : {X Y : Type 0} (f : Y → List ℕ) (v : X → Y) (xs : List X) (i : ℕ) (a b : List ℕ) → length xs ≤ i → b ≡ a ++ flat_map f (map v (take i xs)) →
    b ≡ a ++ flat_map f (map v xs)
grown_all_mapped f v xs i a b l e = e ∙ ap (λ t. a ++ flat_map f (map v t)) (take_all i xs l)
