-- Measures and their numbers correspond in order, and `prog_of` is the least that fits.
use Rattle.std.proofs.Common.{ℕ, ◌≡◌, ◌+◌, ◌*◌, ◌/◌, ◌%◌, ◌<◌, ◌≤◌, ◌↔◌, ◌⊎◌, nat_lt, nat_le, ◌==◌, Bool, true, false, cond, List, [], ◌∷◌, map, replicate, refl, sym, ap, ◌∙◌, subst, inl, inr, eqb-true, arith}
use Rattle.std.proofs.lemmas.Bool.{lt-ltb, le-ltb, le-leb, eq-eqb, ne_eqb, cases_order, cases_lt, cases_Bool, cond-true, cond-false, eqb-false}
use Rattle.std.proofs.Math.Nat.{zero-div, zero-mod, mul-le-mul_right, mul-pos, mul-add-div_right, div-lt_iff_lt-mul, le-div_iff_mul-le, div-eq_of_lt, div-one, div-mul-le_self, mod-lt, div-add-mod', mul_assoc}
use Rattle.std.proofs.lemmas.List.Elements.{All-replicate}
use Rattle.std.proofs.lemmas.Nat.{mul-add-lt, div-mul-add, mod-mul-add}
use Rattle.vpg_game.specs.declared.levels.Level.{Level}
use Rattle.vpg_game.specs.Levels.{is_odd, radix_of, top_of, lower_levels, weight_of, prog_of}
use Rattle.vpg_measure.specs.Measures.{Measure, zero_measure, IsMeasure, LexBelow, LexAtMost, above, Fits, Top, Components}
use Rattle.vpg_measure.specs.Numbers.{value_of, number_of, digits_of, measure_of, AreZeroMeasures}
use Rattle.vpg_measure.specs.NumberLaws.{MeasuresHaveNumbers, NumbersAreMeasures, OrderIsNumeric, ProgIsLeastFit, ProgIsLeastMeasure}

-- one component for each level, at most its count
abbrev AreWithin : List Level → List ℕ → Type 0
AreWithin ls cs = IsMeasure ls (Components cs)

pub top_pos : (ls : List Level) → 0 < top_of ls
top_pos [] = omega arith
top_pos (l ∷ ls) = grind (arith, mul-pos, top_pos ls)

place_below : (x w a h : ℕ) → x < h → a < w → x * w + a < h * w
place_below x w a h p q = omega (arith, mul-add-lt x w a h p q)

pub value_below : (ls : List Level) (xs : List ℕ) → AreWithin ls xs → value_of ls xs < top_of ls
value_below [] [] h = omega arith
value_below [] (x ∷ xs) h = absurd h
value_below (l ∷ ls) [] h = absurd h
value_below (l ∷ ls) (x ∷ xs) h = place_below x (top_of ls) (value_of ls xs) (l.count + 1) (omega arith) (value_below ls xs h.1)

pub digits_within : (ls : List Level) (n : ℕ) → n < top_of ls → AreWithin ls (digits_of ls n)
digits_within [] n h = tt
digits_within (l ∷ ls) n h =
    let d : n / top_of ls < l.count + 1 = (div-lt_iff_lt-mul (top_pos ls)).1 h in
    (omega arith, digits_within ls (n % top_of ls) (mod-lt n (top_pos ls)))

pub value-digits : (ls : List Level) (n : ℕ) → n < top_of ls → value_of ls (digits_of ls n) ≡ n
value-digits [] n h = omega arith
value-digits (l ∷ ls) n h =
    ap (λ r. n / top_of ls * top_of ls + r) (value-digits ls (n % top_of ls) (mod-lt n (top_pos ls))) ∙ div-add-mod' n (top_of ls)

pub digits-value : (ls : List Level) (xs : List ℕ) → AreWithin ls xs → digits_of ls (value_of ls xs) ≡ xs
digits-value [] [] h = refl
digits-value [] (x ∷ xs) h = absurd h
digits-value (l ∷ ls) [] h = absurd h
digits-value (l ∷ ls) (x ∷ xs) h =
    let b = value_below ls xs h.1 in
    let q : (x * top_of ls + value_of ls xs) / top_of ls ≡ x = div-mul-add x (top_of ls) (value_of ls xs) b in
    let r : (x * top_of ls + value_of ls xs) % top_of ls ≡ value_of ls xs = mod-mul-add x (top_of ls) (value_of ls xs) b in
    ap (λ k. k ∷ digits_of ls ((x * top_of ls + value_of ls xs) % top_of ls)) q
    ∙ ap (λ k. x ∷ digits_of ls k) r
    ∙ ap (λ ys. x ∷ ys) (digits-value ls xs h.1)

-- the product of the radices from p on
abbrev upper_top : ℕ → List Level → ℕ
upper_top p [] = 1
upper_top p (l ∷ ls) = cond (nat_le p l.priority) (radix_of l * upper_top p ls) 1

pub weight_pos : (p : ℕ) (ls : List Level) → 0 < weight_of p ls
weight_pos p ls = top_pos (lower_levels p ls)

-- the weight divides the top
top_split : (p : ℕ) (ls : List Level) → top_of ls ≡ upper_top p ls * weight_of p ls
top_split p [] = refl
top_split p (l ∷ ls) = split (nat_le p l.priority) (top_split p ls)
  where
    split : (b : Bool) → top_of ls ≡ upper_top p ls * weight_of p ls → radix_of l * top_of ls ≡ cond b (radix_of l * upper_top p ls) 1 * top_of (cond b (lower_levels p ls) (l ∷ ls))
    split true e = ap (λ k. radix_of l * k) e ∙ sym (mul_assoc (radix_of l) (upper_top p ls) (weight_of p ls))
    split false e = omega arith

-- the quotient by the weight is below the product of the radices above
quotient_below : (p : ℕ) (ls : List Level) (n : ℕ) → n < top_of ls → n / weight_of p ls < upper_top p ls
quotient_below p ls n h = (div-lt_iff_lt-mul (weight_pos p ls)).1 (subst (λ t. n < t) (top_split p ls) h)

-- the quotient of a number whose first component is x
quotient-cons : (p : ℕ) (ls : List Level) (x n : ℕ) → (x * top_of ls + n) / weight_of p ls ≡ x * upper_top p ls + n / weight_of p ls
quotient-cons p ls x n =
    ap (λ t. (x * t + n) / weight_of p ls) (top_split p ls)
    ∙ ap (λ t. (t + n) / weight_of p ls) (sym (mul_assoc x (upper_top p ls) (weight_of p ls)))
    ∙ mul-add-div_right (weight_pos p ls) (x * upper_top p ls) n

-- what stands before a component decides
lt_by_first : (x y a b k : ℕ) → x < y → a < k → x * k + a < y * k + b
lt_by_first x y a b k p q = omega (arith, place_below x k a y p q)

-- a number below the top has quotient zero by it
quotient_by_top : (ls : List Level) (xs : List ℕ) → AreWithin ls xs → value_of ls xs / top_of ls ≡ 0
quotient_by_top ls xs h = div-eq_of_lt (value_below ls xs h)

-- Below on the priorities p and above: the quotient is less.
quotient-below : (p : ℕ) (ls : List Level) (xs ys : List ℕ) → AreWithin ls xs → AreWithin ls ys →
    LexBelow (above ls p xs) (above ls p ys) → value_of ls xs / weight_of p ls < value_of ls ys / weight_of p ls
quotient-below p [] [] [] hx hy h = absurd h
quotient-below p [] [] (y ∷ ys) hx hy h = absurd h
quotient-below p [] (x ∷ xs) ys hx hy h = absurd hx
quotient-below p (l ∷ ls) [] ys hx hy h = absurd hx
quotient-below p (l ∷ ls) (x ∷ xs) [] hx hy h = absurd hy
quotient-below p (l ∷ ls) (x ∷ xs) (y ∷ ys) hx hy h = step (nat_le p l.priority) (quotient-below p ls xs ys hx.1 hy.1) h
  where
    step : (b : Bool) → (LexBelow (above ls p xs) (above ls p ys) → value_of ls xs / weight_of p ls < value_of ls ys / weight_of p ls) →
        LexBelow (cond b (x ∷ above ls p xs) []) (cond b (y ∷ above ls p ys) []) →
        (x * top_of ls + value_of ls xs) / top_of (cond b (lower_levels p ls) (l ∷ ls)) < (y * top_of ls + value_of ls ys) / top_of (cond b (lower_levels p ls) (l ∷ ls))
    step true next (inl less) =
        rw (quotient-cons p ls x (value_of ls xs), quotient-cons p ls y (value_of ls ys))
        (lt_by_first x y _ _ (upper_top p ls) less (quotient_below p ls _ (value_below ls xs hx.1)))
    step true next (inr same) =
        let n = next same.1 in
        let e = same.0 in
        rw (quotient-cons p ls x (value_of ls xs), quotient-cons p ls y (value_of ls ys), e) (omega arith)
    step false next below = absurd below

-- The same on the priorities p and above: the quotient is the same.
quotient-same : (p : ℕ) (ls : List Level) (xs ys : List ℕ) → AreWithin ls xs → AreWithin ls ys →
    above ls p xs ≡ above ls p ys → value_of ls xs / weight_of p ls ≡ value_of ls ys / weight_of p ls
quotient-same p [] [] [] hx hy h = refl
quotient-same p [] [] (y ∷ ys) hx hy h = absurd hy
quotient-same p [] (x ∷ xs) ys hx hy h = absurd hx
quotient-same p (l ∷ ls) [] ys hx hy h = absurd hx
quotient-same p (l ∷ ls) (x ∷ xs) [] hx hy h = absurd hy
quotient-same p (l ∷ ls) (x ∷ xs) (y ∷ ys) hx hy h = step (nat_le p l.priority) (quotient-same p ls xs ys hx.1 hy.1) h
  where
    step : (b : Bool) → (above ls p xs ≡ above ls p ys → value_of ls xs / weight_of p ls ≡ value_of ls ys / weight_of p ls) →
        cond b (x ∷ above ls p xs) [] ≡ cond b (y ∷ above ls p ys) [] →
        (x * top_of ls + value_of ls xs) / top_of (cond b (lower_levels p ls) (l ∷ ls)) ≡ (y * top_of ls + value_of ls ys) / top_of (cond b (lower_levels p ls) (l ∷ ls))
    step true next same =
        let e : x ≡ y = cc in
        let n = next (cc) in
        rw (quotient-cons p ls x (value_of ls xs), quotient-cons p ls y (value_of ls ys), e, n)
    step false next same = quotient_by_top (l ∷ ls) (x ∷ xs) hx ∙ sym (quotient_by_top (l ∷ ls) (y ∷ ys) hy)

-- on the priorities p and above, one of two measures is below the other, or they are the same
trichotomy : (p : ℕ) (ls : List Level) (xs ys : List ℕ) → AreWithin ls xs → AreWithin ls ys →
    LexBelow (above ls p xs) (above ls p ys) ⊎ ((above ls p xs ≡ above ls p ys) ⊎ LexBelow (above ls p ys) (above ls p xs))
trichotomy p [] [] [] hx hy = inr (inl refl)
trichotomy p [] [] (y ∷ ys) hx hy = absurd hy
trichotomy p [] (x ∷ xs) ys hx hy = absurd hx
trichotomy p (l ∷ ls) [] ys hx hy = absurd hx
trichotomy p (l ∷ ls) (x ∷ xs) [] hx hy = absurd hy
trichotomy p (l ∷ ls) (x ∷ xs) (y ∷ ys) hx hy = step (nat_le p l.priority) (cases_order x y) (trichotomy p ls xs ys hx.1 hy.1)
  where
    step : (b : Bool) → (x ≡ y) ⊎ ((x < y) ⊎ (y < x)) →
        LexBelow (above ls p xs) (above ls p ys) ⊎ ((above ls p xs ≡ above ls p ys) ⊎ LexBelow (above ls p ys) (above ls p xs)) →
        LexBelow (cond b (x ∷ above ls p xs) []) (cond b (y ∷ above ls p ys) []) ⊎
        ((cond b (x ∷ above ls p xs) [] ≡ cond b (y ∷ above ls p ys) []) ⊎ LexBelow (cond b (y ∷ above ls p ys) []) (cond b (x ∷ above ls p xs) []))
    step true (inl same) (inl less) = inl (inr (same, less))
    step true (inl same) (inr (inl equal)) = inr (inl (cc))
    step true (inl same) (inr (inr more)) = inr (inr (inr (sym same, more)))
    step true (inr (inl less)) _ = inl (inl less)
    step true (inr (inr more)) _ = inr (inr (inl more))
    step false _ _ = inr (inl refl)

-- and so each comparison of quotients is one of components
pub truncated_order : (ls : List Level) (p : ℕ) (xs ys : List ℕ) → AreWithin ls xs → AreWithin ls ys →
    LexBelow (above ls p xs) (above ls p ys) ↔ (value_of ls xs / weight_of p ls < value_of ls ys / weight_of p ls)
truncated_order ls p xs ys hx hy = (quotient-below p ls xs ys hx hy, back (trichotomy p ls xs ys hx hy))
  where
    back : LexBelow (above ls p xs) (above ls p ys) ⊎ ((above ls p xs ≡ above ls p ys) ⊎ LexBelow (above ls p ys) (above ls p xs)) →
        value_of ls xs / weight_of p ls < value_of ls ys / weight_of p ls → LexBelow (above ls p xs) (above ls p ys)
    back (inl less) h = less
    back (inr (inl same)) h = let e = quotient-same p ls xs ys hx hy same in absurd (omega arith)
    back (inr (inr more)) h = let m = quotient-below p ls ys xs hy hx more in absurd (omega arith)

pub truncated_at_most : (ls : List Level) (p : ℕ) (xs ys : List ℕ) → AreWithin ls xs → AreWithin ls ys →
    LexAtMost (above ls p xs) (above ls p ys) ↔ (value_of ls xs / weight_of p ls ≤ value_of ls ys / weight_of p ls)
truncated_at_most ls p xs ys hx hy = (there, back (trichotomy p ls xs ys hx hy))
  where
    there : LexAtMost (above ls p xs) (above ls p ys) → value_of ls xs / weight_of p ls ≤ value_of ls ys / weight_of p ls
    there (inr less) = let m = quotient-below p ls xs ys hx hy less in omega arith
    there (inl same) = let e = quotient-same p ls xs ys hx hy same in omega arith

    back : LexBelow (above ls p xs) (above ls p ys) ⊎ ((above ls p xs ≡ above ls p ys) ⊎ LexBelow (above ls p ys) (above ls p xs)) →
        value_of ls xs / weight_of p ls ≤ value_of ls ys / weight_of p ls → LexAtMost (above ls p xs) (above ls p ys)
    back (inl less) h = inr less
    back (inr (inl same)) h = inl same
    back (inr (inr more)) h = let m = quotient-below p ls ys xs hy hx more in absurd (omega arith)

-- ---- whole measures

measure-below : (ls : List Level) (n : ℕ) → n < top_of ls → measure_of ls n ≡ Components (digits_of ls n)
measure-below ls n h = cond-true (nat_lt n (top_of ls)) (Components (digits_of ls n)) Top (lt-ltb n (top_of ls) h)

measure-top : (ls : List Level) (n : ℕ) → top_of ls ≤ n → measure_of ls n ≡ Top
measure-top ls n h = cond-false (nat_lt n (top_of ls)) (Components (digits_of ls n)) Top (le-ltb n (top_of ls) h)

pub measures_have_numbers : MeasuresHaveNumbers
measures_have_numbers ls Top h = (omega arith, measure-top ls (top_of ls) (omega arith))
measures_have_numbers ls (Components xs) h =
    let b = value_below ls xs h in
    (omega arith, measure-below ls (value_of ls xs) b ∙ ap Components (digits-value ls xs h))

pub numbers_are_measures : NumbersAreMeasures
numbers_are_measures ls n h = elim (cases_lt n (top_of ls)) [
  | inl less ↦ rw (measure-below ls n less) (digits_within ls n less, value-digits ls n less)
  | inr more ↦ rw (measure-top ls n more) (tt, omega arith)
]

-- every level has priority zero or above
upper-zero : (ls : List Level) (xs : List ℕ) → AreWithin ls xs → above ls 0 xs ≡ xs
upper-zero [] [] h = refl
upper-zero [] (x ∷ xs) h = absurd h
upper-zero (l ∷ ls) [] h = absurd h
upper-zero (l ∷ ls) (x ∷ xs) h =
    cond-true (nat_le 0 l.priority) (x ∷ above ls 0 xs) [] (le-leb 0 l.priority (omega arith)) ∙ ap (λ ys. x ∷ ys) (upper-zero ls xs h.1)

weight-zero : (ls : List Level) → weight_of 0 ls ≡ 1
weight-zero [] = refl
weight-zero (l ∷ ls) = ap top_of (cond-true (nat_le 0 l.priority) (lower_levels 0 ls) (l ∷ ls) (le-leb 0 l.priority (omega arith))) ∙ weight-zero ls

components_order : (ls : List Level) (xs ys : List ℕ) → AreWithin ls xs → AreWithin ls ys → LexAtMost xs ys ↔ (value_of ls xs ≤ value_of ls ys)
components_order ls xs ys hx hy =
    let all = truncated_at_most ls 0 xs ys hx hy in
    simp (upper-zero ls xs hx, upper-zero ls ys hy, weight-zero ls, div-one) at all

pub order_is_numeric : OrderIsNumeric
order_is_numeric ls Top Top hm hn = (λ h. omega arith, λ h. tt)
order_is_numeric ls Top (Components ys) hm hn =
    let b = value_below ls ys hn in (λ h. absurd h, λ h. absurd (omega arith))
order_is_numeric ls (Components xs) Top hm hn =
    let b = value_below ls xs hm in (λ h. omega arith, λ h. tt)
order_is_numeric ls (Components xs) (Components ys) hm hn = components_order ls xs ys hm hn

-- ---- prog

pub prog-top : (ls : List Level) (p : ℕ) → prog_of ls p (top_of ls) ≡ top_of ls
prog-top ls p = cond-true (top_of ls == top_of ls) (top_of ls) _ (eq-eqb (top_of ls) (top_of ls) refl)

pub prog-odd : (ls : List Level) (p r : ℕ) → r < top_of ls → is_odd p ≡ true → prog_of ls p r ≡ (r / weight_of p ls + 1) * weight_of p ls
prog-odd ls p r h o =
    cond-false (r == top_of ls) r _ (ne_eqb r (top_of ls) (λ e. omega arith))
    ∙ cond-true (is_odd p) ((r / weight_of p ls + 1) * weight_of p ls) (r / weight_of p ls * weight_of p ls) o

pub prog-even : (ls : List Level) (p r : ℕ) → r < top_of ls → is_odd p ≡ false → prog_of ls p r ≡ r / weight_of p ls * weight_of p ls
prog-even ls p r h o =
    cond-false (r == top_of ls) r _ (ne_eqb r (top_of ls) (λ e. omega arith))
    ∙ cond-false (is_odd p) ((r / weight_of p ls + 1) * weight_of p ls) (r / weight_of p ls * weight_of p ls) o

-- both at once: an odd priority counts one more
pub prog-sum : (ls : List Level) (p r : ℕ) → r < top_of ls → prog_of ls p r ≡ (r / weight_of p ls + p % 2) * weight_of p ls
prog-sum ls p r h = elim (cases_Bool (is_odd p)) [
  | inl odd ↦ prog-odd ls p r h odd ∙ ap (λ k. (r / weight_of p ls + k) * weight_of p ls) (sym (eqb-true (p % 2) 1 odd))
  | inr even ↦ prog-even ls p r h even ∙ ap (λ k. k * weight_of p ls) (quotient_same even)
]
  where
    quotient_same : is_odd p ≡ false → r / weight_of p ls ≡ r / weight_of p ls + p % 2
    quotient_same even =
        let less : p % 2 < 2 = mod-lt p (omega arith) in
        omega (arith, less, eqb-false (p % 2) 1 even)

pub next_at_most : (ls : List Level) (p r : ℕ) → r < top_of ls → (r / weight_of p ls + 1) * weight_of p ls ≤ top_of ls
next_at_most ls p r h =
    let q = quotient_below p ls r h in
    let e = top_split p ls in
    omega (arith, mul-le-mul_right {m = r / weight_of p ls + 1} {n = upper_top p ls} (weight_of p ls) (omega arith))

-- no result passes the top
pub prog_at_most : (ls : List Level) (p r : ℕ) → r ≤ top_of ls → prog_of ls p r ≤ top_of ls
prog_at_most ls p r h = elim (cases_lt r (top_of ls)) [
  | inr more ↦ (let e : r ≡ top_of ls = omega arith in rw (e, prog-top ls p) (omega arith))
  | inl less ↦ elim (cases_Bool (is_odd p)) [
    | inl odd ↦ rw (prog-odd ls p r less odd) (next_at_most ls p r less)
    | inr even ↦ rw (prog-even ls p r less even) (omega (arith, div-mul-le_self r (weight_of p ls)))
  ]
]

pub prog_sum_at_most : (ls : List Level) (p r : ℕ) → r < top_of ls → (r / weight_of p ls + p % 2) * weight_of p ls ≤ top_of ls
prog_sum_at_most ls p r h = rw (sym (prog-sum ls p r h)) (prog_at_most ls p r (omega arith))

-- at an edge to a value below top
fits_below : (ls : List Level) (p : ℕ) (xs ys : List ℕ) → AreWithin ls xs → AreWithin ls ys → (b : Bool) → is_odd p ≡ b →
    Fits ls p (Components xs) (Components ys) ↔
    (cond b ((value_of ls ys / weight_of p ls + 1) * weight_of p ls) (value_of ls ys / weight_of p ls * weight_of p ls) ≤ value_of ls xs)
fits_below ls p xs ys hx hy true odd =
    let quotients = truncated_order ls p ys xs hy hx in
    let product = le-div_iff_mul-le {k = weight_of p ls} {x = value_of ls ys / weight_of p ls + 1} {y = value_of ls xs} (weight_pos p ls) in
    let strict : value_of ls ys / weight_of p ls < value_of ls xs / weight_of p ls → Fits ls p (Components xs) (Components ys) = λ less. (inr (quotients.1 less), λ _. quotients.1 less) in
    (λ h. product.0 (let less = quotients.0 (h.1 (eqb-true (p % 2) 1 odd)) in omega arith), λ h. strict (let more = product.1 h in omega arith))
fits_below ls p xs ys hx hy false even =
    let quotients = truncated_at_most ls p ys xs hy hx in
    let product = le-div_iff_mul-le {k = weight_of p ls} {x = value_of ls ys / weight_of p ls} {y = value_of ls xs} (weight_pos p ls) in
    (λ h. product.0 (quotients.0 h.0), λ h. (quotients.1 (product.1 h), λ odd. absurd (eqb-false (p % 2) 1 even odd)))

top_fits : (ls : List Level) (p : ℕ) (m : Measure) → Fits ls p Top m
top_fits ls p Top = tt
top_fits ls p (Components ys) = tt

pub prog_is_least_fit : ProgIsLeastFit
prog_is_least_fit ls p r n hr hn = elim (cases_lt n (top_of ls)) [
  | inr top_n ↦ (let en : n ≡ top_of ls = omega arith in
      rw (measure-top ls n top_n) (λ _. (let a = prog_at_most ls p r hr in omega arith), λ _. top_fits ls p (measure_of ls r)))
  | inl less_n ↦ elim (cases_lt r (top_of ls)) [
    | inr top_r ↦ (let er : r ≡ top_of ls = omega arith in
        rw (measure-below ls n less_n, measure-top ls r top_r)
        (λ h. absurd h, λ h. (let t : prog_of ls p r ≡ top_of ls = ap (prog_of ls p) er ∙ prog-top ls p in absurd (omega arith))))
    | inl less_r ↦
        (let e : prog_of ls p r ≡ cond (is_odd p) ((r / weight_of p ls + 1) * weight_of p ls) (r / weight_of p ls * weight_of p ls) =
        cond-false (r == top_of ls) r _ (ne_eqb r (top_of ls) (λ q. omega arith)) in
        let fits = fits_below ls p (digits_of ls n) (digits_of ls r) (digits_within ls n less_n) (digits_within ls r less_r) (is_odd p) refl in
        rw (measure-below ls n less_n, measure-below ls r less_r, e)
        (simp (value-digits ls n less_n, value-digits ls r less_r) at fits))
  ]
]

pub prog_is_least_measure : ProgIsLeastMeasure
prog_is_least_measure ls p n hn =
    let r = number_of ls n in
    let at = measures_have_numbers ls n hn in
    let best = prog_of ls p r in
    let best_le : best ≤ top_of ls = prog_at_most ls p r at.0 in
    let best_is = numbers_are_measures ls best best_le in
    record {
      in_range = best_is.0;
      fits = subst (λ m. Fits ls p (measure_of ls best) m) at.1 ((prog_is_least_fit ls p r best at.0 best_le).1 (omega arith));
      least = λ m hm fit.
          (let am = measures_have_numbers ls m hm in
          let there : Fits ls p (measure_of ls (number_of ls m)) (measure_of ls r) =
          subst (λ k. Fits ls p k (measure_of ls r)) (sym am.1) (subst (λ k. Fits ls p m k) (sym at.1) fit) in
          let more = (prog_is_least_fit ls p r (number_of ls m) at.0 am.0).0 there in
          (order_is_numeric ls (measure_of ls best) m best_is.0 hm).1 (omega (arith, best_is.1)));
    }

zero_digits : (ls : List Level) → digits_of ls 0 ≡ map (λ place. 0) ls
zero_digits [] = refl
zero_digits (l ∷ ls) =
    ap (λ k. k ∷ digits_of ls (0 % top_of ls)) (zero-div (top_of ls))
    ∙ ap (λ k. 0 ∷ digits_of ls k) (zero-mod (top_of ls))
    ∙ ap (λ ks. 0 ∷ ks) (zero_digits ls)

-- zero is the number of the zero measure
zero_is_zero : (ls : List Level) → measure_of ls 0 ≡ zero_measure ls
zero_is_zero ls = measure-below ls 0 (top_pos ls) ∙ ap Components (zero_digits ls)

pub zeros_are_zero_measures : (ls : List Level) (n : ℕ) → AreZeroMeasures ls (replicate n 0)
zeros_are_zero_measures ls n = All-replicate (λ k. measure_of ls k ≡ zero_measure ls) n 0 (zero_is_zero ls)
