-- Sums over a list that changes at one place.
use Rattle.std.proofs.Common.{◌≡◌, ◌≢◌, ℕ, zero, suc, ◌+◌, ◌≤◌, List, [], ◌∷◌, ◌++◌, length, set, get_or, refl, sym, ap, arith}
use mathlib.Core.Option.{some, some-injective, some-ne-none}
use lib.ListN.{get_elem?}
use Rattle.vpg_board.specs.Rule.{total, times}

pub total_set : {A : Type 0} (f : A → ℕ) (xs : List A) (i : ℕ) (v w : A) → get_elem? xs i ≡ some v → total f (set xs i w) + f v ≡ total f xs + f w
total_set f [] i v w e = absurd (some-ne-none v (sym e))
total_set f (x ∷ xs) zero v w e = let h : f x ≡ f v = ap f (some-injective x v e) in omega arith
total_set f (x ∷ xs) (suc i) v w e = let h = total_set f xs i v w e in omega arith

pub total_snoc : {A : Type 0} (f : A → ℕ) (xs : List A) (w : A) → total f (xs ++ w ∷ []) ≡ total f xs + f w
total_snoc f [] w = omega arith
total_snoc f (x ∷ xs) w = let h = total_snoc f xs w in omega arith

pub total_ge : {A : Type 0} (f : A → ℕ) (xs : List A) (i : ℕ) (v : A) → get_elem? xs i ≡ some v → f v ≤ total f xs
total_ge f [] i v e = absurd (some-ne-none v (sym e))
total_ge f (x ∷ xs) zero v e = let h : f x ≡ f v = ap f (some-injective x v e) in omega arith
total_ge f (x ∷ xs) (suc i) v e = let h = total_ge f xs i v e in omega arith

-- two of them are together at most the sum
pub total_two : {A : Type 0} (f : A → ℕ) (xs : List A) (i j : ℕ) (v w : A) → get_elem? xs i ≡ some v → get_elem? xs j ≡ some w → j ≢ i → f v + f w ≤ total f xs
total_two f [] i j v w e d n = absurd (some-ne-none v (sym e))
total_two f (x ∷ xs) zero zero v w e d n = absurd (n refl)
total_two f (x ∷ xs) zero (suc j) v w e d n = let h : f x ≡ f v = ap f (some-injective x v e) in let k = total_ge f xs j w d in omega arith
total_two f (x ∷ xs) (suc i) zero v w e d n = let h : f x ≡ f w = ap f (some-injective x w d) in let k = total_ge f xs i v e in omega arith
total_two f (x ∷ xs) (suc i) (suc j) v w e d n = let k = total_two f xs i j v w e d (λ q. n (ap suc q)) in omega arith

total_none : {A : Type 0} (f : A → ℕ) (xs : List A) → ((j : ℕ) (w : A) → get_elem? xs j ≡ some w → f w ≡ 0) → total f xs ≡ 0
total_none f [] h = refl
total_none f (x ∷ xs) h = let a : f x ≡ 0 = h 0 x refl in let b = total_none f xs (λ j w e. h (suc j) w e) in omega arith

-- the sum is one of them, where the others are 0
pub total_one : {A : Type 0} (f : A → ℕ) (xs : List A) (i : ℕ) (v : A) → get_elem? xs i ≡ some v → ((j : ℕ) (w : A) → j ≢ i → get_elem? xs j ≡ some w → f w ≡ 0) → total f xs ≡ f v
total_one f [] i v e h = absurd (some-ne-none v (sym e))
total_one f (x ∷ xs) zero v e h =
    let a : f x ≡ f v = ap f (some-injective x v e) in
    let b = total_none f xs (λ j w d. h (suc j) w (λ q. omega arith) d) in omega arith
total_one f (x ∷ xs) (suc i) v e h =
    let a : f x ≡ 0 = h 0 x (λ q. omega arith) refl in
    let b = total_one f xs i v e (λ j w n d. h (suc j) w (λ q. n (omega arith)) d) in omega arith

pub times-append : (n : ℕ) (xs ys : List ℕ) → times n (xs ++ ys) ≡ times n xs + times n ys
times-append n [] ys = omega arith
times-append n (x ∷ xs) ys = let h = times-append n xs ys in omega arith

pub at_get : {A : Type 0} (xs : List A) (i : ℕ) (v d : A) → get_elem? xs i ≡ some v → get_or xs i d ≡ v
at_get [] i v d e = absurd (some-ne-none v (sym e))
at_get (x ∷ xs) zero v d e = some-injective x v e
at_get (x ∷ xs) (suc i) v d e = at_get xs i v d e

pub at_below : {A : Type 0} (xs : List A) (i : ℕ) (v : A) → get_elem? xs i ≡ some v → suc i ≤ length xs
at_below [] i v e = absurd (some-ne-none v (sym e))
at_below (x ∷ xs) zero v e = omega arith
at_below (x ∷ xs) (suc i) v e = let h = at_below xs i v e in omega arith

pub get_at : {A : Type 0} (xs : List A) (i : ℕ) (d : A) → suc i ≤ length xs → get_elem? xs i ≡ some (get_or xs i d)
get_at [] i d h = absurd (omega arith)
get_at (x ∷ xs) zero d h = refl
get_at (x ∷ xs) (suc i) d h = get_at xs i d (omega arith)
