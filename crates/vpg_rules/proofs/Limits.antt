-- Lists of clauses that stop at the limit.
use Rattle.std.proofs.Common.{◌≡◌, ℕ, ◌*◌, ◌-◌, ◌^◌, ◌<◌, ◌≤◌, min, Bool, true, false, cond, List, [], ◌∷◌, length, map, Some, None, refl, sym, ap, subst, ◌∙◌, arith}
use Rattle.std.specs.Prelude.{leb}
use Rattle.std.proofs.lemmas.Bool.Decides.{nat_tests}
use Rattle.std.proofs.lemmas.List.{length-append, length-map}
use Rattle.vpg_rules.specs.declared.clause.Literal.{Literal}
use Rattle.vpg_rules.specs.Clauses.{crossed, joined}
use Rattle.vpg_rules.specs.Distributing.{limited}

abbrev pub Lists : Type 0
Lists = List (List Literal)

some_is : {A : Type 0} (x y : A) → Some x ≡ Some y → x ≡ y
some_is x y e = cc

within : (n : ℕ) → leb n 64 ≡ true → n ≤ 64
within n e = grind (arith, nat_tests)

beyond : (n : ℕ) → leb n 64 ≡ false → 64 < n
beyond n e = grind (arith, nat_tests)

pub limited_some : (xs zs : Lists) → Some zs ≡ limited xs → (zs ≡ xs) × (length xs ≤ 64)
limited_some xs zs e = go (leb (length xs) 64) refl e
  where
    go : (t : Bool) → leb (length xs) 64 ≡ t → Some zs ≡ cond t (Some xs) None → (zs ≡ xs) × (length xs ≤ 64)
    go true is e = (some_is zs xs e, within (length xs) is)
    go false is e = absurd cc

pub limited_none : (xs : Lists) → None ≡ limited xs → 64 < length xs
limited_none xs e = go (leb (length xs) 64) refl e
  where
    go : (t : Bool) → leb (length xs) 64 ≡ t → None ≡ cond t (Some xs) None → 64 < length xs
    go true is e = absurd cc
    go false is e = beyond (length xs) is

pub limited_small : (xs : Lists) → length xs ≤ 64 → Some xs ≡ limited xs
limited_small xs le = go (leb (length xs) 64) refl
  where
    go : (t : Bool) → leb (length xs) 64 ≡ t → Some xs ≡ cond t (Some xs) None
    go true is = refl
    go false is = absurd (omega (arith, beyond (length xs) is))

pub limited_large : (xs : Lists) → 64 < length xs → None ≡ limited xs
limited_large xs lt = go (leb (length xs) 64) refl
  where
    go : (t : Bool) → leb (length xs) 64 ≡ t → None ≡ cond t (Some xs) None
    go true is = absurd (omega (arith, within (length xs) is))
    go false is = refl

pub crossed_length : (xs ys : Lists) → length (crossed xs ys) ≡ length xs * length ys
crossed_length [] ys = omega arith
crossed_length (x ∷ xs) ys =
    let more = crossed_length xs ys in
    let one = length-map ys (joined x) in
    let whole = length-append (map (joined x) ys) (crossed xs ys) in
    omega (arith, more, one, whole)

pub crossed_none : (xs : Lists) → crossed xs [] ≡ []
crossed_none [] = refl
crossed_none (x ∷ xs) = crossed_none xs

positive : (xs : Lists) → ([] ≡ xs → ⊥) → 0 < length xs
positive [] some = absurd (some refl)
positive (x ∷ xs) some = omega arith

large_left : (m n : ℕ) → 64 < m → 0 < n → 64 < m * n
large_left m n a b = omega (arith, times m n b)
  where
    times : (m n : ℕ) → 0 < n → m ≤ m * n
    times m n lt = search (arith)

-- ---- how the code comes to the limit

pub crossed_empty_right : (xs ys : Lists) → Some [] ≡ limited ys → Some [] ≡ limited (crossed xs ys)
crossed_empty_right xs ys e =
    let h = limited_some ys [] e in
    subst (λ (zs : Lists). Some [] ≡ limited (crossed xs zs)) h.0 (ap limited (sym (crossed_none xs)))

-- more than the limit on one side, and something on the other
pub crossed_large_left : (xs ys : Lists) → None ≡ limited xs → (Some [] ≡ limited ys → ⊥) → None ≡ limited (crossed xs ys)
crossed_large_left xs ys e filled =
    let some = positive ys (λ is. filled (ap limited is)) in
    limited_large (crossed xs ys) (omega (arith, crossed_length xs ys, large_left (length xs) (length ys) (limited_none xs e) some))

large_right : (m n : ℕ) → 0 < m → 64 < n → 64 < m * n
large_right m n a b = omega (arith, times m n a)
  where
    times : (m n : ℕ) → 0 < m → n ≤ m * n
    times m n lt = search (arith)

pub crossed_large_right : (xs ys : Lists) → (Some [] ≡ limited xs → ⊥) → None ≡ limited ys → None ≡ limited (crossed xs ys)
crossed_large_right xs ys filled e =
    let some = positive xs (λ is. filled (ap limited is)) in
    limited_large (crossed xs ys) (omega (arith, crossed_length xs ys, large_right (length xs) (length ys) some (limited_none ys e)))

-- two lists within the limit
pub crossed_over : (xs ys zs us : Lists) → Some zs ≡ limited xs → Some us ≡ limited ys → 64 < length zs * length us → None ≡ limited (crossed xs ys)
crossed_over xs ys zs us e f lt =
    let g = limited_some xs zs e in
    let h = limited_some ys us f in
    let same : 64 < length xs * length ys = subst (λ (n : ℕ). 64 < length xs * n) (ap length h.0) (subst (λ (m : ℕ). 64 < m * length us) (ap length g.0) lt) in
    limited_large (crossed xs ys) (omega (arith, crossed_length xs ys, same))

pub crossed_within : (xs ys zs us made : Lists) → Some zs ≡ limited xs → Some us ≡ limited ys → length zs * length us ≤ 64 → made ≡ crossed zs us → Some made ≡ limited (crossed xs ys)
crossed_within xs ys zs us made e f le is =
    let g = limited_some xs zs e in
    let h = limited_some ys us f in
    let same : made ≡ crossed xs ys = is ∙ ap (λ (v : Lists). crossed v us) g.0 ∙ ap (crossed xs) h.0 in
    let few : length made ≤ 64 = omega (arith, ap length is, crossed_length zs us, le) in
    subst (λ (v : Lists). Some made ≡ limited v) same (limited_small made few)

-- ---- one list behind the other

-- a product that is cut off far above the limit
pub over_limit : (p r : ℕ) → r ≡ min p (2 ^ 64 - 1) → 64 < r → 64 < p
over_limit p r e lt = omega arith

pub under_limit : (p r : ℕ) → r ≡ min p (2 ^ 64 - 1) → r ≤ 64 → p ≤ 64
under_limit p r e le = omega arith
