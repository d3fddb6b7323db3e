-- The components on a priority and above.
use Rattle.std.proofs.Common.{◌≡◌, ℕ, ◌<◌, ◌≤◌, ◌⊎◌, inl, inr, List, [], ◌∷◌, refl, ap, subst, le-leb, arith}
use Rattle.std.proofs.lemmas.Bool.{cases_lt, lt-leb}
use Rattle.vpg_game.specs.declared.levels.Level.{Level}
use Rattle.vpg_measure.specs.Measures.{Shape, LexBelow, LexAtMost, above}
use Rattle.vpg_measure.proofs.Lex.{at_most_cons}

pub above-more : (place : Level) (shape : Shape) (p x : ℕ) (xs : List ℕ) → p ≤ place.priority → above (place ∷ shape) p (x ∷ xs) ≡ x ∷ above shape p xs
above-more place shape p x xs h = rw (le-leb p place.priority h) refl

pub above-none : (place : Level) (shape : Shape) (p : ℕ) (xs : List ℕ) → place.priority < p → above (place ∷ shape) p xs ≡ []
above-none place shape p [] h = refl
above-none place shape p (x ∷ xs) h = rw (lt-leb p place.priority h) refl

-- a part of two lists decides no more than the whole
pub above_at_most : (shape : Shape) (p : ℕ) (xs ys : List ℕ) → LexAtMost xs ys → LexAtMost (above shape p xs) (above shape p ys)
above_at_most shape p xs ys (inl e) = inl (ap (above shape p) e)
above_at_most [] p xs ys (inr h) = inl refl
above_at_most (place ∷ shape) p [] ys (inr h) = absurd h
above_at_most (place ∷ shape) p (x ∷ xs) [] (inr h) = absurd h
above_at_most (place ∷ shape) p (x ∷ xs) (y ∷ ys) (inr h) = decide (cases_lt place.priority p) h (λ k. above_at_most shape p xs ys (inr k))
  where
    decide : (place.priority < p) ⊎ (p ≤ place.priority) → LexBelow (x ∷ xs) (y ∷ ys) → (LexBelow xs ys → LexAtMost (above shape p xs) (above shape p ys)) → LexAtMost (above (place ∷ shape) p (x ∷ xs)) (above (place ∷ shape) p (y ∷ ys))
    decide (inl low) k rest = rw (above-none place shape p (x ∷ xs) low, above-none place shape p (y ∷ ys) low) (inl refl)
    decide (inr high) (inl k) rest = rw (above-more place shape p x xs high, above-more place shape p y ys high) (inr (inl k))
    decide (inr high) (inr k) rest = rw (above-more place shape p x xs high, above-more place shape p y ys high) (at_most_cons x y (above shape p xs) (above shape p ys) k.0 (rest k.1))

pub above-above : (shape : Shape) (p q : ℕ) (xs : List ℕ) → p ≤ q → above shape q (above shape p xs) ≡ above shape q xs
above-above [] p q xs l = refl
above-above (place ∷ shape) p q [] l = refl
above-above (place ∷ shape) p q (x ∷ xs) l = decide (cases_lt place.priority p) (cases_lt place.priority q) (above-above shape p q xs l)
  where
    decide : (place.priority < p) ⊎ (p ≤ place.priority) → (place.priority < q) ⊎ (q ≤ place.priority) → above shape q (above shape p xs) ≡ above shape q xs →
        above (place ∷ shape) q (above (place ∷ shape) p (x ∷ xs)) ≡ above (place ∷ shape) q (x ∷ xs)
    decide (inl low) (inl low_q) rest = rw (above-none place shape p (x ∷ xs) low, above-none place shape q (x ∷ xs) low_q) refl
    decide (inl low) (inr high_q) rest = absurd (omega arith)
    decide (inr high) (inl low_q) rest = rw (above-more place shape p x xs high, above-none place shape q (x ∷ above shape p xs) low_q, above-none place shape q (x ∷ xs) low_q) refl
    decide (inr high) (inr high_q) rest = rw (above-more place shape p x xs high, above-more place shape q x (above shape p xs) high_q, above-more place shape q x xs high_q) (ap (λ l. x ∷ l) rest)

-- so does the part on a greater priority
pub higher_at_most : (shape : Shape) (p q : ℕ) (xs ys : List ℕ) → p ≤ q → LexAtMost (above shape p xs) (above shape p ys) → LexAtMost (above shape q xs) (above shape q ys)
higher_at_most shape p q xs ys l h =
    subst (λ z. LexAtMost z (above shape q ys)) (above-above shape p q xs l)
    (subst (λ z. LexAtMost (above shape q (above shape p xs)) z) (above-above shape p q ys l) (above_at_most shape q (above shape p xs) (above shape p ys) h))
