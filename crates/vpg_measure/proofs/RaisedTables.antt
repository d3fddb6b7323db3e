-- Tables raised from an order's, and what certified bounds leave.
use Rattle.std.proofs.Common.{◌≡◌, ℕ, ◌<◌, ◌≤◌, max, List, length, slice_index, get_or, sym, ◌∙◌, subst, All, arith}
use Rattle.std.proofs.lemmas.List.Elements.{All-from_get_or}
use Rattle.vpg_measure.specs.BoundLaws.{RaisedFromOrder}
use Rattle.vpg_measure.specs.Lifts.{IsBelowTable}

pub raised_from_order : RaisedFromOrder
raised_from_order which order table is above below = record { above = above; below = λ other t p. below other t p ((is.below which).below other t p) }

-- the table of the greater of two values at each vertex
module _ (n : ℕ) (old bounds new : List ℕ) (old_len : length old ≡ n) (bounds_len : length bounds ≡ n) (new_len : length new ≡ n) (greater : (v : ℕ) → v < n → slice_index new v ≡ max (slice_index old v) (slice_index bounds v)) where
  pub greater_within : (limit : ℕ) → All (λ m. m ≤ limit) old → All (λ m. m ≤ limit) bounds → All (λ m. m ≤ limit) new
  greater_within limit h k = All-from_get_or (λ m. m ≤ limit) new 0 (λ v l. at v (subst (λ m. v < m) new_len l))
    where
      at : (v : ℕ) → v < n → get_or new v 0 ≤ limit
      at v inside = omega (arith, greater v inside, h v 0 (subst (λ m. v < m) (sym old_len) inside), k v 0 (subst (λ m. v < m) (sym bounds_len) inside))

  pub greater_above : IsBelowTable old new
  greater_above = (old_len ∙ sym new_len, λ v l. at v (subst (λ m. v < m) old_len l))
    where
      at : (v : ℕ) → v < n → slice_index old v ≤ slice_index new v
      at v inside = omega (arith, greater v inside)

  pub greater_reaches : IsBelowTable bounds new
  greater_reaches = (bounds_len ∙ sym new_len, λ v l. at v (subst (λ m. v < m) bounds_len l))
    where
      at : (v : ℕ) → v < n → slice_index bounds v ≤ slice_index new v
      at v inside = omega (arith, greater v inside)

  pub greater_below : (other : List ℕ) → IsBelowTable old other → IsBelowTable bounds other → IsBelowTable new other
  greater_below other h k = (new_len ∙ sym bounds_len ∙ k.0, λ v l. at v (subst (λ m. v < m) new_len l))
    where
      at : (v : ℕ) → v < n → slice_index new v ≤ slice_index other v
      at v inside = omega (arith, greater v inside, h.1 v (subst (λ m. v < m) (sym old_len) inside), k.1 v (subst (λ m. v < m) (sym bounds_len) inside))
