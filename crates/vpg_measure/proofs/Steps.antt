-- What one more step of a loop over a list adds.
use Rattle.std.proofs.Common.{ℕ, ◌≡◌, ◌+◌, ◌<◌, List, [], ◌∷◌, ◌++◌, length, get_or, Some, slice_get, sym, ap, ◌∙◌, subst, arith, below_more}
use Rattle.std.proofs.lemmas.List.{get_or_default, get_or_append_left, get_or_push, length_push}
use Rattle.std.proofs.lemmas.Option.{slice_get-get_or}

-- what holds of each item read below i and of the one at i holds below i + 1
pub read_more : (P : ℕ → Type 0) (ws : List ℕ) (i : ℕ) → i < length ws → ((k d : ℕ) → k < i → P (get_or ws k d)) →
    P (get_or ws i 0) → (k d : ℕ) → k < i + 1 → P (get_or ws k d)
read_more P ws i less before here k d =
    below_more (λ j. P (get_or ws j d)) i (λ j l. before j d l) (subst P (get_or_default ws i 0 d less) here) k

-- a list that has f's value at each index below n, with one more value pushed
pub pushed_more : {X : Type 0} (f : ℕ → X) (xs : List X) (x : X) (n : ℕ) → length xs ≡ n →
    ((k : ℕ) → k < n → slice_get xs k ≡ Some (f k)) → x ≡ f n →
    (k : ℕ) → k < n + 1 → slice_get (xs ++ x ∷ []) k ≡ Some (f k)
pushed_more f xs x n len each e =
    below_more (λ k. slice_get (xs ++ x ∷ []) k ≡ Some (f k)) n
    (λ k l. slice_get-get_or (xs ++ x ∷ []) k x (omega (arith, length_push xs x))
    ∙ ap Some (get_or_append_left xs (x ∷ []) x k (omega arith)) ∙ sym (slice_get-get_or xs k x (omega arith)) ∙ each k l)
    (slice_get-get_or (xs ++ x ∷ []) n x (omega (arith, length_push xs x)) ∙ ap Some (get_or_push xs x x n len ∙ e))
