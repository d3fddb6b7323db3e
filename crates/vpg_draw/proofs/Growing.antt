-- A text that grows step by step.
use Rattle.std.proofs.Common.{◌≡◌, ℕ, suc, ◌+◌, ◌<◌, ◌≤◌, List, ◌++◌, length, map, take, get_or, flat_map, Result, Ok, Err, rules, sym, ap, ◌∙◌, append_assoc, add-one}
use Rattle.std.proofs.lemmas.List.{flat_map_more, take_more, take_all}
use Rattle.std.proofs.lemmas.List.Folds.{flat_map-map}
use Rattle.std.specs.Prelude.{if◌then◌else◌}
use Rattle.std.specs.Result.{OnOk, is_ok}

-- two pieces
pub grown : (a b c x y : List ℕ) → b ≡ a ++ x → c ≡ b ++ y → c ≡ a ++ (x ++ y)
grown a b c x y e f = f ∙ (ap (λ (s : List ℕ). s ++ y) e ∙ append_assoc a x y)

-- a text by recursion over the numbers below n, and one more of them
pub grown_by : (text : ℕ → List ℕ) (piece : List ℕ) (n : ℕ) (a b c : List ℕ) → text (suc n) ≡ text n ++ piece → b ≡ a ++ text n → c ≡ b ++ piece → c ≡ a ++ text (n + 1)
grown_by text piece n a b c s e f = rw (add-one) (grown a b c (text n) piece e f ∙ ap (λ (t : List ℕ). a ++ t) (sym s))

-- a piece for each element, and one more of them
pub grown_each : {X : Type 0} (f : X → List ℕ) (xs : List X) (i : ℕ) (d : X) (a b c : List ℕ) → i < length xs → b ≡ a ++ flat_map f (take i xs) → c ≡ b ++ f (get_or xs i d) →
    c ≡ a ++ flat_map f (take (i + 1) xs)
grown_each f xs i d a b c l e g =
    g ∙ (ap (λ (s : List ℕ). s ++ f (get_or xs i d)) e ∙ (flat_map_more f a (take i xs) (get_or xs i d) ∙ ap (λ t. a ++ flat_map f t) (sym (take_more xs i d l))))

-- the same of an element that is at its place
pub grown_item : {X : Type 0} (f : X → List ℕ) (xs : List X) (i : ℕ) (x : X) (a b c : List ℕ) → i < length xs → x ≡ get_or xs i x → b ≡ a ++ flat_map f (take i xs) → c ≡ b ++ f x →
    c ≡ a ++ flat_map f (take (i + 1) xs)
grown_item f xs i x a b c l is e g = grown_each f xs i x a b c l e (g ∙ ap (λ y. b ++ f y) is)

-- a piece for what each element is taken for
pub grown_mapped : {X Y : Type 0} (f : Y → List ℕ) (v : X → Y) (xs : List X) (i : ℕ) (d : X) (a b c : List ℕ) → i < length xs → b ≡ a ++ flat_map f (map v (take i xs)) →
    c ≡ b ++ f (v (get_or xs i d)) → c ≡ a ++ flat_map f (map v (take (i + 1) xs))
grown_mapped f v xs i d a b c l e g =
    grown_each (λ x. f (v x)) xs i d a b c l (e ∙ ap (λ (t : List ℕ). a ++ t) (flat_map-map f v (take i xs))) g
    ∙ ap (λ (t : List ℕ). a ++ t) (sym (flat_map-map f v (take (i + 1) xs)))

-- a piece for each of all elements
pub grown_all : {X : Type 0} (f : X → List ℕ) (xs : List X) (i : ℕ) (a b : List ℕ) → length xs ≤ i → b ≡ a ++ flat_map f (take i xs) → b ≡ a ++ flat_map f xs
grown_all f xs i a b l e = e ∙ ap (λ t. a ++ flat_map f t) (take_all i xs l)

pub grown_all_mapped : {X Y : Type 0} (f : Y → List ℕ) (v : X → Y) (xs : List X) (i : ℕ) (a b : List ℕ) → length xs ≤ i → b ≡ a ++ flat_map f (map v (take i xs)) →
    b ≡ a ++ flat_map f (map v xs)
grown_all_mapped f v xs i a b l e = e ∙ ap (λ t. a ++ flat_map f (map v t)) (take_all i xs l)

-- what is so where memory is granted
pub granted : {T E : Type 0} (r : Result T E) (c x y : List ℕ) → c ≡ (if is_ok r then x else y) → OnOk r (c ≡ x)
granted (Ok _) c x y e = e
granted (Err _) c x y e = search rules
