-- What stands from a place of a list on.
use Rattle.std.proofs.Common.{◌≡◌, ℕ, zero, suc, ◌<◌, ◌≤◌, List, [], ◌∷◌, length, drop, get_or, arith}

-- the first element from a place on, and what stands behind it
pub record IsCut {X : Type 0} (xs : List X) (k : ℕ) (x : X) (ys : List X) : Type 0 where
  pub inside : k < length xs
  pub element : (d : X) → get_or xs k d ≡ x
  pub behind : drop (suc k) xs ≡ ys

pub cut : {X : Type 0} (k : ℕ) (xs : List X) (x : X) (ys : List X) → drop k xs ≡ x ∷ ys → IsCut xs k x ys
cut zero [] x ys e = absurd cc
cut zero (z ∷ xs) x ys e = record { inside = omega arith; element = λ d. cc; behind = cc }
cut (suc k) [] x ys e = absurd cc
cut (suc k) (z ∷ xs) x ys e = later (cut k xs x ys e)
  where
    later : IsCut xs k x ys → IsCut (z ∷ xs) (suc k) x ys
    later h = record { inside = omega (arith, h.inside); element = h.element; behind = h.behind }

pub none_left : {X : Type 0} (k : ℕ) (xs : List X) → drop k xs ≡ [] → length xs ≤ k
none_left zero [] e = omega arith
none_left zero (x ∷ xs) e = absurd cc
none_left (suc k) [] e = omega arith
none_left (suc k) (x ∷ xs) e = omega (arith, none_left k xs e)
