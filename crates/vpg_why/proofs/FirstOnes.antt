-- Of two products the one that comes before the other.
use Rattle.std.proofs.Common.{◌≡◌, ℕ, zero, suc, ◌<◌, ◌⊎◌, inl, inr, Bool, true, false, List, [], ◌∷◌, length, slice_index_or, refl, sym, ap, ◌∙◌, arith}
use Rattle.vpg_why.specs.Products.{ComesBefore}
use Rattle.vpg_why.specs.Laws.{FirstProductsAreOne}

-- one more feature in front that both have, or lack
later : (b : Bool) (one other : List Bool) → ComesBefore one other → ComesBefore (b ∷ one) (b ∷ other)
later b one other before = record { feature = suc before.feature; has = before.has; lacks = before.lacks; same = same }
  where
    same : (f : ℕ) → f < suc before.feature → slice_index_or (b ∷ one) f false ≡ slice_index_or (b ∷ other) f false
    same zero less = refl
    same (suc f) less = before.same f (omega (arith, less))

at_once : (one other : List Bool) → ComesBefore (true ∷ one) (false ∷ other)
at_once one other = record { feature = 0; has = refl; lacks = refl; same = λ f less. absurd (omega (arith, less)) }

abbrev Compared : (one other : List Bool) → Type 0
Compared one other = (one ≡ other) ⊎ (ComesBefore one other ⊎ ComesBefore other one)

behind : (b : Bool) (one other : List Bool) → Compared one other → Compared (b ∷ one) (b ∷ other)
behind b one other (inl same) = inl (ap (λ (xs : List Bool). b ∷ xs) same)
behind b one other (inr (inl before)) = inr (inl (later b one other before))
behind b one other (inr (inr after)) = inr (inr (later b other one after))

compared : (one other : List Bool) → length one ≡ length other → Compared one other
compared [] [] same = inl refl
compared [] (y ∷ other) same = absurd (omega (arith, same))
compared (x ∷ one) [] same = absurd (omega (arith, same))
compared (true ∷ one) (true ∷ other) same = behind true one other (compared one other (omega (arith, same)))
compared (true ∷ one) (false ∷ other) same = inr (inl (at_once one other))
compared (false ∷ one) (true ∷ other) same = inr (inr (at_once other one))
compared (false ∷ one) (false ∷ other) same = behind false one other (compared one other (omega (arith, same)))

pub first_products_are_one : FirstProductsAreOne
first_products_are_one game lines aim choices one other remains meets first also met earliest = of (compared one other (remains.product.length_is ∙ sym also.product.length_is))
  where
    of : Compared one other → one ≡ other
    of (inl same) = same
    of (inr (inl before)) = absurd (earliest one remains before meets)
    of (inr (inr after)) = absurd (first other also after met)
