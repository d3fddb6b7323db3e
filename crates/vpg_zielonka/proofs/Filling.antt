-- A set of products at each vertex: how parts are made, and what they are in one product.
use Rattle.std.proofs.Common.{◌≡◌, ℕ, ◌+◌, ◌<◌, ◌≤◌, ◌⊎◌, inl, inr, List, [], ◌∷◌, ◌++◌, Bool, true, false, ◌&&◌, length, nat_lt, sym, ◌∙◌, ap, subst, length-append, arith}
use Rattle.std.proofs.lemmas.Bool.{cases_eq, cases_lt, lt-ltb, le-ltb}
use Rattle.std.proofs.lemmas.List.{get_or_append_left}
use Rattle.std.proofs.Math.Seq.{get_or-append_seam}
use Rattle.vpg_zielonka.specs.declared.subset.Subset.{Subset}
use Rattle.vpg_zielonka.specs.declared.universe.Universe.{Universe}
use Rattle.vpg_zielonka.specs.Universes.{no_subset, IsKnown, IsInside, has, IsSetOf, IsGrown}
use Rattle.vpg_zielonka.proofs.Growing.{known_of, grown_then, inside_grown, set_grown, set_same}
use Rattle.vpg_zielonka.specs.Parts.{set_at, AreSets, part_in}

-- The sets of the first vertices are made: each has the products that pass its test.
pub record AreMade (universe : Universe) (test : ℕ → List Bool → Bool) (count : ℕ) (made : List Subset) : Type 0 where
  pub count_is : length made ≡ count
  pub each : (v : ℕ) → v < count → IsSetOf universe (test v) (set_at made v)

-- ---- what a part is in one product

module _ (universe : Universe) (sets : List Subset) (p : List Bool) (v : ℕ) where
  pub part_inside : v < length sets → part_in universe sets p v ≡ has universe (set_at sets v) p
  unfolding part_in
  part_inside l = ap (λ (b : Bool). b && has universe (set_at sets v) p) (lt-ltb v (length sets) l)

  pub part_beyond : length sets ≤ v → part_in universe sets p v ≡ false
  unfolding part_in
  part_beyond l = ap (λ (b : Bool). b && has universe (set_at sets v) p) (le-ltb v (length sets) l)

  pub part_below : part_in universe sets p v ≡ true → v < length sets
  part_below e = of (cases_lt v (length sets))
    where
      of : (v < length sets) ⊎ (length sets ≤ v) → v < length sets
      of (inl l) = l
      of (inr l) = absurd (clash (part_beyond l))
        where
          clash : part_in universe sets p v ≡ false → ⊥
          clash f = cc (e, f)

-- a product of a part is known
pub part_known : (universe : Universe) (sets : List Subset) (p : List Bool) (v : ℕ) →
    part_in universe sets p v ≡ true → IsKnown universe p
part_known universe sets p v e = known_of universe (set_at sets v) p
    (sym (part_inside universe sets p v (part_below universe sets p v e)) ∙ e)

-- a part stays what it is when the universe grows
pub part_grown : (a b : Universe) → IsGrown a b → (count : ℕ) (sets : List Subset) → AreSets a count sets →
    (p : List Bool) (v : ℕ) → part_in b sets p v ≡ part_in a sets p v
part_grown a b g count sets are p v = of (cases_lt v (length sets))
  where
    of : (v < length sets) ⊎ (length sets ≤ v) → part_in b sets p v ≡ part_in a sets p v
    of (inl l) = part_inside b sets p v l ∙ g.same (set_at sets v) (are.inside v l) p ∙ sym (part_inside a sets p v l)
    of (inr l) = part_beyond b sets p v l ∙ sym (part_beyond a sets p v l)

pub sets_grown : (a b : Universe) → IsGrown a b → (count : ℕ) (sets : List Subset) → AreSets a count sets →
    AreSets b count sets
sets_grown a b g count sets are = record {
  count_is = are.count_is;
  inside = λ v l. inside_grown a b g (set_at sets v) (are.inside v l);
}

-- ---- parts that are made

pub made_grown : (a b : Universe) → IsGrown a b → (test : ℕ → List Bool → Bool) (count : ℕ) (made : List Subset) →
    AreMade a test count made → AreMade b test count made
made_grown a b g test count made are = record {
  count_is = are.count_is;
  each = λ v l. set_grown a b g (test v) (set_at made v) (are.each v l);
}

pub made_push : (universe : Universe) (test : ℕ → List Bool → Bool) (count : ℕ) (made : List Subset) (set : Subset) →
    AreMade universe test count made → IsSetOf universe (test count) set →
    AreMade universe test (count + 1) (made ++ set ∷ [])
made_push universe test count made set are new = record {
  count_is = length-append made (set ∷ []) ∙ ap (λ n. n + 1) are.count_is;
  each = λ v l. of v l (cases_eq v count);
}
  where
    last : set_at (made ++ set ∷ []) (length made) ≡ set
    last = get_or-append_seam made set [] no_subset

    of : (v : ℕ) → v < count + 1 → (v ≡ count) ⊎ (v ≡ count → ⊥) → IsSetOf universe (test v) (set_at (made ++ set ∷ []) v)
    of v l (inl e) = subst (λ n. IsSetOf universe (test n) (set_at (made ++ set ∷ []) n)) (sym e)
        (subst (λ (s : Subset). IsSetOf universe (test count) s)
        (sym (ap (λ n. set_at (made ++ set ∷ []) n) (sym are.count_is) ∙ last)) new)
    of v l (inr n) = subst (λ (s : Subset). IsSetOf universe (test v) s)
        (sym (get_or_append_left made (set ∷ []) no_subset v (below are.count_is)))
        (are.each v (omega (arith, n)))
      where
        below : length made ≡ count → v < length made
        below e = omega (arith, n)

-- one more set, made of two sets of the universe that there was at first
pub made_more : (old a b : Universe) → IsGrown old a → IsGrown a b → (f : Bool → Bool → Bool) (x y set : Subset) →
    IsInside old x → IsInside old y → IsSetOf b (λ p. f (has a x p) (has a y p)) set →
    (test : ℕ → List Bool → Bool) (count : ℕ) (made : List Subset) →
    ((p : List Bool) → test count p ≡ f (has old x p) (has old y p)) → AreMade a test count made →
    IsGrown old b × AreMade b test (count + 1) (made ++ set ∷ [])
made_more old a b g h f x y set x_in y_in is test count made tested are = (
  grown_then old a b g h,
  made_push b test count made set (made_grown a b h test count made are)
      (set_same b (λ p. f (has a x p) (has a y p)) (test count)
      (λ p. same (has a x p) (has a y p) (has old x p) (has old y p) (g.same x x_in p) (g.same y y_in p) ∙ sym (tested p))
      set is),
)
  where
    same : (s t u w : Bool) → s ≡ u → t ≡ w → f s t ≡ f u w
    same s t u w d e = ap (λ (c : Bool). f c t) d ∙ ap (λ (c : Bool). f u c) e

pub made_part : (universe : Universe) (test : ℕ → List Bool → Bool) (count : ℕ) (made : List Subset) →
    AreMade universe test count made → (p : List Bool) (v : ℕ) → part_in universe made p v ≡ (nat_lt v count && test v p)
made_part universe test count made are p v = of (cases_lt v count)
  where
    of : (v < count) ⊎ (count ≤ v) → part_in universe made p v ≡ (nat_lt v count && test v p)
    of (inl l) = part_inside universe made p v (subst (λ n. v < n) (sym are.count_is) l) ∙ (are.each v l).each p
        ∙ sym (ap (λ (b : Bool). b && test v p) (lt-ltb v count l))
    of (inr l) = part_beyond universe made p v (subst (λ n. n ≤ v) (sym are.count_is) l)
        ∙ sym (ap (λ (b : Bool). b && test v p) (le-ltb v count l))

-- a part made by a test of two parts, vertex by vertex
module _ (old new : Universe) (count : ℕ) (part other made : List Subset) (f : Bool → Bool → Bool) (none : f false false ≡ false)
    (are : AreSets old count part) (others : AreSets old count other)
    (made_of : AreMade new (λ v p. f (has old (set_at part v) p) (has old (set_at other v) p)) count made) where
  pub made_by : (p : List Bool) (v : ℕ) → part_in new made p v ≡ f (part_in old part p v) (part_in old other p v)
  made_by p v = of (cases_lt v count)
    where
      same : (s t u w : Bool) → s ≡ u → t ≡ w → f s t ≡ f u w
      same s t u w d e = ap (λ (c : Bool). f c t) d ∙ ap (λ (c : Bool). f u c) e

      of : (v < count) ⊎ (count ≤ v) → part_in new made p v ≡ f (part_in old part p v) (part_in old other p v)
      of (inl l) = part_inside new made p v (subst (λ n. v < n) (sym made_of.count_is) l) ∙ (made_of.each v l).each p
          ∙ sym (same (part_in old part p v) (part_in old other p v) (has old (set_at part v) p)
          (has old (set_at other v) p)
          (part_inside old part p v (subst (λ n. v < n) (sym are.count_is) l))
          (part_inside old other p v (subst (λ n. v < n) (sym others.count_is) l)))
      of (inr l) = part_beyond new made p v (subst (λ n. n ≤ v) (sym made_of.count_is) l) ∙ sym none
          ∙ sym (same (part_in old part p v) (part_in old other p v) false false
          (part_beyond old part p v (subst (λ n. n ≤ v) (sym are.count_is) l))
          (part_beyond old other p v (subst (λ n. n ≤ v) (sym others.count_is) l)))

-- a part made by a test of a part and of the product
module _ (old new : Universe) (count : ℕ) (part made : List Subset) (f : Bool → Bool → Bool) (set : Subset)
    (none : (b : Bool) → f false b ≡ false) (are : AreSets old count part)
    (made_of : AreMade new (λ v p. f (has old (set_at part v) p) (has old set p)) count made) where
  pub made_under : (p : List Bool) (v : ℕ) → part_in new made p v ≡ f (part_in old part p v) (has old set p)
  made_under p v = of (cases_lt v count)
    where
      of : (v < count) ⊎ (count ≤ v) → part_in new made p v ≡ f (part_in old part p v) (has old set p)
      of (inl l) = part_inside new made p v (subst (λ n. v < n) (sym made_of.count_is) l) ∙ (made_of.each v l).each p
          ∙ sym (ap (λ (b : Bool). f b (has old set p))
          (part_inside old part p v (subst (λ n. v < n) (sym are.count_is) l)))
      of (inr l) = part_beyond new made p v (subst (λ n. n ≤ v) (sym made_of.count_is) l) ∙ sym (none (has old set p))
          ∙ sym (ap (λ (b : Bool). f b (has old set p))
          (part_beyond old part p v (subst (λ n. n ≤ v) (sym are.count_is) l)))
