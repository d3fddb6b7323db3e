-- The levels of a game, their weights and products over priorities.
use Rattle.std.proofs.Common.{ℕ, zero, suc, ◌≡◌, ◌+◌, ◌*◌, ◌/◌, ◌<◌, ◌≤◌, nat_lt, nat_le, ◌==◌, Bool, true, false, cond, ◌&&◌, List, [], ◌∷◌, length, get_or, take, refl, ap, ◌∙◌, subst, inl, inr, zero-add, add-one, length-take, arith}
use Rattle.std.proofs.lemmas.Bool.{ltb-false, le-leb, lt-leb, ne_eqb, cases_lt, cond-true, cond-false}
use Rattle.std.proofs.lemmas.List.Sums.{sum_by-cons, count_by-le-length}
use Rattle.std.proofs.Math.Nat.{mul-le-mul_right, mul-pos, div-lt_iff_lt-mul}
use Rattle.vpg_game.specs.declared.levels.Level.{Level}
use Rattle.vpg_game.specs.Levels.{is_odd, count_of, levels_below, bound_of, levels_of, top_of, lower_levels, product_below, AreOddCounts}

-- the product of the levels below p is over all odd priorities below p
top_pos : (ls : List Level) → 0 < top_of ls
top_pos [] = omega arith
top_pos (l ∷ ls) = grind (arith, mul-pos, top_pos ls)

pub top-levels_below : (p : ℕ) (ps : List ℕ) → top_of (levels_below p ps) ≡ product_below p ps
top-levels_below zero ps = refl
top-levels_below (suc p) ps = step (is_odd p) (nat_lt 0 (count_of p ps)) refl (top-levels_below p ps)
  where
    step : (odd some : Bool) → nat_lt 0 (count_of p ps) ≡ some → top_of (levels_below p ps) ≡ product_below p ps →
        top_of (cond (odd && some) (record { priority = p; count = count_of p ps } ∷ levels_below p ps) (levels_below p ps)) ≡
        cond odd ((count_of p ps + 1) * product_below p ps) (product_below p ps)
    step true true e h = ap (λ t. (count_of p ps + 1) * t) h
    step true false e h =
        let none : count_of p ps ≡ 0 = omega (arith, ltb-false 0 (count_of p ps) e) in
        rw none (h ∙ omega arith)
    step false some e h = h

pub product_pos : (p : ℕ) (ps : List ℕ) → 0 < product_below p ps
product_pos p ps = subst (λ t. 0 < t) (top-levels_below p ps) (top_pos (levels_below p ps))

-- the levels below p of those below b
lower-above : (p b : ℕ) (ps : List ℕ) → b ≤ p → lower_levels p (levels_below b ps) ≡ levels_below b ps
lower-above p zero ps h = refl
lower-above p (suc b) ps h = step (is_odd b && nat_lt 0 (count_of b ps)) (lower-above p b ps (omega arith))
  where
    step : (here : Bool) → lower_levels p (levels_below b ps) ≡ levels_below b ps →
        lower_levels p (cond here (record { priority = b; count = count_of b ps } ∷ levels_below b ps) (levels_below b ps)) ≡
        cond here (record { priority = b; count = count_of b ps } ∷ levels_below b ps) (levels_below b ps)
    step true e = cond-false (nat_le p b) (lower_levels p (levels_below b ps)) _ (lt-leb p b (omega arith))
    step false e = e

lower-below : (p b : ℕ) (ps : List ℕ) → p ≤ b → lower_levels p (levels_below b ps) ≡ levels_below p ps
lower-below p zero ps h = (let e : p ≡ 0 = omega arith in rw e refl)
lower-below p (suc b) ps h = elim (cases_lt b p) [
  | inl more ↦ (let e : p ≡ suc b = omega arith in rw e (lower-above (suc b) (suc b) ps (omega arith)))
  | inr less ↦ step (is_odd b && nat_lt 0 (count_of b ps)) less (lower-below p b ps less)
]
  where
    step : (here : Bool) → p ≤ b → lower_levels p (levels_below b ps) ≡ levels_below p ps →
        lower_levels p (cond here (record { priority = b; count = count_of b ps } ∷ levels_below b ps) (levels_below b ps)) ≡ levels_below p ps
    step true less e = cond-true (nat_le p b) (lower_levels p (levels_below b ps)) _ (le-leb p b less) ∙ e
    step false less e = e

-- no priority occurs from the bound on
count-beyond : (p : ℕ) (ps : List ℕ) → bound_of ps ≤ p → count_of p ps ≡ 0
count-beyond p [] h = refl
count-beyond p (q ∷ ps) h =
    sum_by-cons (λ x. cond (x == p) 1 0) q ps
    ∙ ap (λ b. cond b 1 0 + count_of p ps) (ne_eqb q p (λ e. omega arith))
    ∙ zero-add (count_of p ps)
    ∙ count-beyond p ps (omega arith)

product-step : (p : ℕ) (ps : List ℕ) → count_of p ps ≡ 0 → product_below (suc p) ps ≡ product_below p ps
product-step p ps none = step (is_odd p)
  where
    step : (odd : Bool) → cond odd ((count_of p ps + 1) * product_below p ps) (product_below p ps) ≡ product_below p ps
    step true = rw none (omega arith)
    step false = refl

-- and so products stay the same from the bound on
pub product-beyond : (p : ℕ) (ps : List ℕ) → bound_of ps ≤ p → product_below p ps ≡ product_below (bound_of ps) ps
product-beyond zero ps h = (let e : bound_of ps ≡ 0 = omega arith in rw e refl)
product-beyond (suc p) ps h = elim (cases_lt p (bound_of ps)) [
  | inl less ↦ (let e : suc p ≡ bound_of ps = omega arith in ap (λ b. product_below b ps) e)
  | inr more ↦ product-step p ps (count-beyond p ps more) ∙ product-beyond p ps more
]

pub top-levels : (ps : List ℕ) → top_of (levels_of ps) ≡ product_below (bound_of ps) ps
top-levels ps = top-levels_below (bound_of ps) ps

-- products grow
pub product_step_le : (p : ℕ) (ps : List ℕ) → product_below p ps ≤ product_below (suc p) ps
product_step_le p ps = step (is_odd p)
  where
    step : (odd : Bool) → product_below p ps ≤ cond odd ((count_of p ps + 1) * product_below p ps) (product_below p ps)
    step true = omega (arith, mul-le-mul_right {m = 1} {n = count_of p ps + 1} (product_below p ps) (omega arith))
    step false = omega arith

pub product_le : (p b : ℕ) (ps : List ℕ) → p ≤ b → product_below p ps ≤ product_below b ps
product_le p zero ps h = (let e : p ≡ 0 = omega arith in rw e (omega arith))
product_le p (suc b) ps h = elim (cases_lt b p) [
  | inl more ↦ (let e : p ≡ suc b = omega arith in rw e (omega arith))
  | inr less ↦ omega (arith, product_le p b ps less, product_step_le b ps)
]

-- ---- steps of the loops that count and multiply

-- each priority is below the bound
pub get_or-lt-bound : (ps : List ℕ) (i : ℕ) → i < length ps → get_or ps i 0 < bound_of ps
get_or-lt-bound [] i h = absurd (omega arith)
get_or-lt-bound (p ∷ ps) zero h = omega arith
get_or-lt-bound (p ∷ ps) (suc i) h = omega (arith, get_or-lt-bound ps i (omega arith))

pub odd_count-le : (p i x : ℕ) (ps : List ℕ) → x ≡ cond (is_odd p) (count_of p (take i ps)) 0 → x ≤ i
odd_count-le p i x ps e = step (is_odd p) e
  where
    step : (odd : Bool) → x ≡ cond odd (count_of p (take i ps)) 0 → x ≤ i
    step true e = omega (arith, count_by-le-length (λ q. q == p) (take i ps), length-take i ps)
    step false e = omega arith

pub product_more : (p x : ℕ) (ps : List ℕ) → x ≡ cond (is_odd p) (count_of p ps) 0 → product_below (p + 1) ps ≡ (x + 1) * product_below p ps
product_more p x ps e = rw add-one (step (is_odd p) e)
  where
    step : (odd : Bool) → x ≡ cond odd (count_of p ps) 0 →
        cond odd ((count_of p ps + 1) * product_below p ps) (product_below p ps) ≡ (x + 1) * product_below p ps
    step true e = rw e refl
    step false e = rw e (omega arith)

-- the next product, by the counts
pub product_next : (ps counts : List ℕ) (i : ℕ) → AreOddCounts ps counts → i < length counts →
    product_below (i + 1) ps ≡ (get_or counts i 0 + 1) * product_below i ps
product_next ps counts i h within = product_more i (get_or counts i 0) ps (h.each i within)

pub product_within : (ps counts : List ℕ) (i : ℕ) → AreOddCounts ps counts → i < length counts →
    (get_or counts i 0 + 1) * product_below i ps ≤ top_of (levels_of ps)
product_within ps counts i h within =
    omega (arith, product_next ps counts i h within, product_le (i + 1) (bound_of ps) ps (omega (arith, h.len)), top-levels ps)

-- a quotient of the limit that is no more than the count shows that the top is above the limit
pub too_wide : (ps counts : List ℕ) (i top limit : ℕ) → AreOddCounts ps counts → i < length counts → top ≡ product_below i ps →
    limit / top ≤ get_or counts i 0 → top_of (levels_of ps) ≤ limit → ⊥
too_wide ps counts i top limit h within e more small =
    let pos : 0 < top = rw e (product_pos i ps) in
    let above = (div-lt_iff_lt-mul {k = top} {x = limit} {y = get_or counts i 0 + 1} pos).0 (omega arith) in
    let most = product_within ps counts i h within in
    absurd (omega (arith, rw (← e) at most))
