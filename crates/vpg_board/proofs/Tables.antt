-- Tables that lie below one another.
use Rattle.std.proofs.Common.{◌≡◌, ℕ, zero, suc, ◌<◌, ◌≤◌, max, List, [], ◌∷◌, length, set, get_or, refl, ap, arith}
use Rattle.vpg_board.specs.Places.{Below}
use Rattle.vpg_board.specs.Lifters.{greater}

pub below_self : (t : List ℕ) → Below t t
below_self t k = omega arith

pub below_trans : (t u v : List ℕ) → Below t u → Below u v → Below t v
below_trans t u v a b k = omega (arith, a k, b k)

-- what holds of the value at the place and of the others holds after a write
pub at_write : (P : ℕ → ℕ → Type 0) (t : List ℕ) (p n : ℕ) → (p < length t → P p n) → ((k : ℕ) → P k (get_or t k 0)) → (k : ℕ) → P k (get_or (set t p n) k 0)
at_write P [] p n here else k = else k
at_write P (x ∷ t) zero n here else zero = here (omega arith)
at_write P (x ∷ t) zero n here else (suc k) = else (suc k)
at_write P (x ∷ t) (suc p) n here else zero = else zero
at_write P (x ∷ t) (suc p) n here else (suc k) = at_write (λ j m. P (suc j) m) t p n (λ h. here (omega arith)) (λ j. else (suc j)) k

-- a table that is raised at one place
pub below_write : (t : List ℕ) (p n : ℕ) → get_or t p 0 ≤ n → Below t (set t p n)
below_write t p n h = at_write (λ k m. get_or t k 0 ≤ m) t p n (λ _. h) (λ k. omega arith)

-- a table that is written at one place is below another, if the number is
pub write_below : (t u : List ℕ) (p n : ℕ) → Below t u → n ≤ get_or u p 0 → Below (set t p n) u
write_below t u p n b h = at_write (λ k m. m ≤ get_or u k 0) t p n (λ _. h) b

pub greater_at : (t u : List ℕ) (k : ℕ) → get_or (greater t u) k 0 ≡ max (get_or t k 0) (get_or u k 0)
greater_at [] u k = omega arith
greater_at (x ∷ t) [] k = omega arith
greater_at (x ∷ t) (y ∷ u) zero = refl
greater_at (x ∷ t) (y ∷ u) (suc k) = greater_at t u k

pub below_greater : (t u : List ℕ) → Below t (greater t u)
below_greater t u k = omega (arith, greater_at t u k)

pub below_greater_right : (t u : List ℕ) → Below u (greater t u)
below_greater_right t u k = omega (arith, greater_at t u k)

pub greater_below : (t u v : List ℕ) → Below t v → Below u v → Below (greater t u) v
greater_below t u v a b k = omega (arith, greater_at t u k, a k, b k)

pub length-greater : (t u : List ℕ) → length t ≡ length u → length (greater t u) ≡ length t
length-greater [] [] e = refl
length-greater [] (y ∷ u) e = absurd (omega arith)
length-greater (x ∷ t) [] e = refl
length-greater (x ∷ t) (y ∷ u) e = ap suc (length-greater t u (omega arith))
