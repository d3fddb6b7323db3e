-- Two lists that differ in the sign of one literal.
use Rattle.std.proofs.Common.{◌≡◌, ℕ, suc, ◌+◌, ◌-◌, ◌<◌, ◌≤◌, ◌⊎◌, inl, inr, Bool, true, false, not, List, [], ◌∷◌, ◌++◌, length, get_or, take, drop, refl, sym, ap, ◌∙◌, subst, append_assoc, arith}
use Rattle.std.specs.List.{remove, between}
use Rattle.std.proofs.lemmas.Bool.{cases_order}
use Rattle.std.proofs.lemmas.List.{length-append, length_push, length-drop, length-take-le, take_at, drop_at, take_all, take-append-drop, drop_more, get_or_at, get_or_append_left, get_or-take}
use Rattle.std.proofs.lemmas.Slice.{between_to_end}
use Rattle.vpg_diagram.specs.declared.clause.Literal.{Literal}
use Rattle.vpg_partial.specs.Known.{negation}
use Rattle.vpg_winners.specs.Joined.{DiffersAt}

other_sign : (a b : Bool) → (a ≡ b → ⊥) → b ≡ not a
other_sign true true h = absurd (h refl)
other_sign true false h = refl
other_sign false true h = refl
other_sign false false h = absurd (h refl)

own_sign : (a : Bool) → a ≡ not a → ⊥
own_sign true e = cc
own_sign false e = cc

pub not_its_negation : (l : Literal) → l ≡ negation l → ⊥
not_its_negation l e = own_sign l.value (ap (λ (m : Literal). m.value) e)

-- one of the same feature that is another is the negation
negated : (a b : Literal) → a.feature ≡ b.feature → (a ≡ b → ⊥) → b ≡ negation a
negated a b e n = joined (sym e) (other_sign a.value b.value (λ v. n (same e v)))
  where
    same : a.feature ≡ b.feature → a.value ≡ b.value → a ≡ b
    same f v = λ i. record { feature = f i; value = v i }

    joined : b.feature ≡ a.feature → b.value ≡ not a.value → b ≡ negation a
    joined f v = λ i. record { feature = f i; value = v i }

behind : (front : List Literal) (x : Literal) (back : List Literal) (n : ℕ) → n ≡ length front →
    drop (n + 1) (front ++ x ∷ back) ≡ back
behind front x back n e = ap (λ (ls : List Literal). drop (n + 1) ls) (sym (append_assoc front (x ∷ []) back))
    ∙ drop_at (front ++ x ∷ []) back (n + 1) (let k = length_push front x in omega (arith, k, e))

-- they differ where all else is the same
pub differ : (one other : List Literal) (n : ℕ) (a b : Literal) → n < length one → n < length other →
    take n one ≡ take n other → a ≡ get_or one n a → b ≡ get_or other n b → a.feature ≡ b.feature → (a ≡ b → ⊥) →
    drop (n + 1) one ≡ drop (n + 1) other → DiffersAt one other n
differ one other n a b less less_other front at_one at_other feature differs back = record {
  front = take n one;
  literal = a;
  back = drop (n + 1) one;
  one_is = sym (take-append-drop n one) ∙ ap (λ (ls : List Literal). take n one ++ ls)
      (drop_more one n a less ∙ ap (λ (l : Literal). l ∷ drop (n + 1) one) (sym at_one));
  other_is = sym (take-append-drop n other) ∙ ap (λ (ls : List Literal). take n other ++ ls)
      (drop_more other n b less_other ∙ ap (λ (l : Literal). l ∷ drop (n + 1) other) (sym at_other)) ∙ rest_is;
  place_is = sym (length-take-le n one (omega (arith, less)));
}
  where
    rest_is : take n other ++ b ∷ drop (n + 1) other ≡ take n one ++ negation a ∷ drop (n + 1) one
    rest_is = ap (λ (ls : List Literal). ls ++ b ∷ drop (n + 1) other) (sym front)
        ∙ ap (λ (l : Literal). take n one ++ l ∷ drop (n + 1) other) (negated a b feature differs)
        ∙ ap (λ (ls : List Literal). take n one ++ negation a ∷ ls) (sym back)

-- where two lists have the same front, and that is all of both, they are the same
pub same_by_front : (xs ys : List Literal) (r : ℕ) → take r xs ≡ take r ys → length xs ≤ r → length ys ≤ r → xs ≡ ys
same_by_front xs ys r e a b = sym (take_all r xs a) ∙ e ∙ take_all r ys b

module _ (one other : List Literal) (p : ℕ) (d : DiffersAt one other p) where
  pub same_length : length one ≡ length other
  same_length = ap length d.one_is ∙ length-append d.front (d.literal ∷ d.back)
      ∙ sym (length-append d.front (negation d.literal ∷ d.back)) ∙ sym (ap length d.other_is)

  pub place_within : p < length other
  place_within = let e : length other ≡ length d.front + suc (length d.back) =
      ap length d.other_is ∙ length-append d.front (negation d.literal ∷ d.back) in
      let q = d.place_is in omega (arith, e, q)

  pub left_out : remove other p ≡ d.front ++ d.back
  left_out = ap (λ (ls : List Literal). remove ls p) d.other_is ∙ removed
    where
      after_it : suc p ≡ p + 1
      after_it = omega arith

      removed : remove (d.front ++ negation d.literal ∷ d.back) p ≡ d.front ++ d.back
      removed = ap (λ (ls : List Literal). ls ++ drop (suc p) (d.front ++ negation d.literal ∷ d.back))
          (take_at d.front (negation d.literal ∷ d.back) p (sym d.place_is))
          ∙ ap (λ (ls : List Literal). d.front ++ ls)
          (ap (λ k. drop k (d.front ++ negation d.literal ∷ d.back)) after_it
          ∙ behind d.front (negation d.literal) d.back p d.place_is)

  pub at_one : (e : Literal) → get_or one p e ≡ d.literal
  at_one e = ap (λ (ls : List Literal). get_or ls p e) d.one_is
      ∙ get_or_at d.front d.literal d.back e p (sym d.place_is)

  pub at_other : (e : Literal) → get_or other p e ≡ negation d.literal
  at_other e = ap (λ (ls : List Literal). get_or ls p e) d.other_is
      ∙ get_or_at d.front (negation d.literal) d.back e p (sym d.place_is)

  -- they are the same before that place
  pub same_before : (n : ℕ) (e : Literal) → n < p → get_or one n e ≡ get_or other n e
  same_before n e less = at (omega (arith, less, d.place_is))
    where
      at : n < length d.front → get_or one n e ≡ get_or other n e
      at k = ap (λ (ls : List Literal). get_or ls n e) d.one_is
          ∙ get_or_append_left d.front (d.literal ∷ d.back) e n k
          ∙ sym (get_or_append_left d.front (negation d.literal ∷ d.back) e n k)
          ∙ sym (ap (λ (ls : List Literal). get_or ls n e) d.other_is)

  module _ (n : ℕ) (front : take n one ≡ take n other) (within : n ≤ length one)
      (stops : (e : Literal) → n < length one → n < length other → get_or one n e ≡ get_or other n e → ⊥) where
    before : n < p → ⊥
    before less = stops d.literal (omega (arith, less, place_within, same_length)) (omega (arith, less, place_within))
        (same_before n d.literal less)

    after : p < n → ⊥
    after more = not_its_negation d.literal (sym (at_one d.literal) ∙ sym (get_or-take n one p d.literal more)
        ∙ ap (λ (ls : List Literal). get_or ls p d.literal) front ∙ get_or-take n other p d.literal more
        ∙ at_other d.literal)

    pub same_place : n ≡ p
    same_place = of (cases_order n p)
      where
        of : (n ≡ p) ⊎ ((n < p) ⊎ (p < n)) → n ≡ p
        of (inl e) = e
        of (inr (inl k)) = absurd (before k)
        of (inr (inr k)) = absurd (after k)

    pub not_the_end : n ≡ length one → ⊥
    not_the_end e = omega (arith, e, same_place, place_within, same_length)

    pub same_feature : (a b : Literal) → a ≡ get_or one n a → b ≡ get_or other n b → (a.feature ≡ b.feature → ⊥) → ⊥
    same_feature a b f g h = h (ap (λ (l : Literal). l.feature) f
        ∙ ap (λ k. (get_or one k a).feature) same_place ∙ ap (λ (l : Literal). l.feature) (at_one a)
        ∙ sym (ap (λ (l : Literal). l.feature) (at_other b)) ∙ sym (ap (λ k. (get_or other k b).feature) same_place)
        ∙ sym (ap (λ (l : Literal). l.feature) g))

    same_back : drop (n + 1) one ≡ drop (n + 1) other
    same_back = ap (λ (ls : List Literal). drop (n + 1) ls) d.one_is
        ∙ behind d.front d.literal d.back n (same_place ∙ d.place_is)
        ∙ sym (behind d.front (negation d.literal) d.back n (same_place ∙ d.place_is))
        ∙ sym (ap (λ (ls : List Literal). drop (n + 1) ls) d.other_is)

    -- so the same front behind that place reaches the end
    pub all_behind : (xs ys : List Literal) (r : ℕ) → xs ≡ drop (n + 1) one → ys ≡ drop (n + 1) other →
        ((e : Literal) → r < length xs → r < length ys → get_or xs r e ≡ get_or ys r e → ⊥) → r < length xs → ⊥
    all_behind xs ys r e f end less = end d.literal less (subst (λ (ls : List Literal). r < length ls) same less)
        (ap (λ (ls : List Literal). get_or ls r d.literal) same)
      where
        same : xs ≡ ys
        same = e ∙ same_back ∙ sym f

    -- as slices of both
    pub rest_differs : (r : ℕ) → ((e : Literal) → r < length (between (n + 1) (length one) one) →
        r < length (between (n + 1) (length other) other) →
        get_or (between (n + 1) (length one) one) r e ≡ get_or (between (n + 1) (length other) other) r e → ⊥) →
        r < length one - n - 1 → ⊥
    rest_differs r end less = all_behind (between (n + 1) (length one) one) (between (n + 1) (length other) other) r
        (between_to_end one (n + 1) (length one) (omega arith)) (between_to_end other (n + 1) (length other) (omega arith))
        end (omega (arith, less, long))
      where
        long : length (between (n + 1) (length one) one) ≡ length one - (n + 1)
        long = ap length (between_to_end one (n + 1) (length one) (omega arith)) ∙ length-drop (n + 1) one

-- what is the same behind a place, where the same front of both slices reaches the end
pub same_rest : (one other : List Literal) (n r : ℕ) → length one ≡ length other → length one - n - 1 ≤ r →
    take r (between (n + 1) (length one) one) ≡ take r (between (n + 1) (length other) other) →
    drop (n + 1) one ≡ drop (n + 1) other
same_rest one other n r e all front = sym mine
    ∙ same_by_front (between (n + 1) (length one) one) (between (n + 1) (length other) other) r front
    (let l = ap length mine ∙ length-drop (n + 1) one in omega (arith, all, l))
    (let l = ap length its ∙ length-drop (n + 1) other in omega (arith, all, l, e)) ∙ its
  where
    mine : between (n + 1) (length one) one ≡ drop (n + 1) one
    mine = between_to_end one (n + 1) (length one) (omega arith)

    its : between (n + 1) (length other) other ≡ drop (n + 1) other
    its = between_to_end other (n + 1) (length other) (omega arith)

-- two lists differ so at one place
pub one_place : (one other : List Literal) (p q : ℕ) → DiffersAt one other p → DiffersAt one other q → p ≡ q
one_place one other p q d e = of (cases_order p q)
  where
    early : (p q : ℕ) → DiffersAt one other p → DiffersAt one other q → p < q → ⊥
    early p q d e less = not_its_negation d.literal (sym (at_one one other p d d.literal)
        ∙ same_before one other q e p d.literal less ∙ at_other one other p d d.literal)

    of : (p ≡ q) ⊎ ((p < q) ⊎ (q < p)) → p ≡ q
    of (inl h) = h
    of (inr (inl k)) = absurd (early p q d e k)
    of (inr (inr k)) = absurd (early q p e d k)
