-- The levels of a game, their weights and products over priorities.
use Rattle.std.proofs.Common.{ℕ, zero, suc, ◌≡◌, ◌+◌, ◌^◌, ◌<◌, ◌≤◌, nat_lt, nat_le, Bool, true, false, cond, ◌&&◌, List, [], ◌∷◌, ◌++◌, length, get_or, reverse, refl, sym, ap, ◌∙◌, inl, inr, add-one, arith}
use Rattle.std.proofs.lemmas.Bool.{lt-ltb, le-ltb, le-leb, lt-leb, cases_lt, cond-true, cond-false}
use Rattle.std.proofs.lemmas.List.{get_or_append_left, get_or_push, length_push, reverse-append}
use Rattle.vpg_game.specs.declared.levels.Level.{Level}
use Rattle.vpg_game.specs.Levels.{is_odd, count_of, levels_below, bound_of, levels_of, top_of, lower_levels, product_below, AreWeights}
use Rattle.vpg_measure.specs.NumberLaws.{WeightsAreProducts}
use Rattle.vpg_game.proofs.Products.{top-levels_below, product-beyond, top-levels}

-- the levels below p of those below b
lower-above : (p b : ℕ) (ps : List ℕ) → b ≤ p → lower_levels p (levels_below b ps) ≡ levels_below b ps
lower-above p zero ps h = refl
lower-above p (suc b) ps h = step (is_odd b && nat_lt 0 (count_of b ps)) (lower-above p b ps (omega arith))
  where
    step : (here : Bool) → lower_levels p (levels_below b ps) ≡ levels_below b ps →
        lower_levels p (cond here (record { priority = b; count = count_of b ps } ∷ levels_below b ps) (levels_below b ps)) ≡
        cond here (record { priority = b; count = count_of b ps } ∷ levels_below b ps) (levels_below b ps)
    step true e = cond-false (nat_le p b) (lower_levels p (levels_below b ps)) _ (lt-leb p b (omega arith))
    step false e = e

lower-below : (p b : ℕ) (ps : List ℕ) → p ≤ b → lower_levels p (levels_below b ps) ≡ levels_below p ps
lower-below p zero ps h = (let e : p ≡ 0 = omega arith in rw e refl)
lower-below p (suc b) ps h = elim (cases_lt b p) [
  | inl more ↦ (let e : p ≡ suc b = omega arith in rw e (lower-above (suc b) (suc b) ps (omega arith)))
  | inr less ↦ step (is_odd b && nat_lt 0 (count_of b ps)) less (lower-below p b ps less)
]
  where
    step : (here : Bool) → p ≤ b → lower_levels p (levels_below b ps) ≡ levels_below p ps →
        lower_levels p (cond here (record { priority = b; count = count_of b ps } ∷ levels_below b ps) (levels_below b ps)) ≡ levels_below p ps
    step true less e = cond-true (nat_le p b) (lower_levels p (levels_below b ps)) _ (le-leb p b less) ∙ e
    step false less e = e

pub weights_are_products : WeightsAreProducts
weights_are_products ps p = elim (cases_lt p (bound_of ps)) [
  | inl less ↦ ap top_of (lower-below p (bound_of ps) ps (omega arith)) ∙ top-levels_below p ps
  | inr more ↦ ap top_of (lower-above p (bound_of ps) ps more) ∙ top-levels ps ∙ sym (product-beyond p ps more)
]

-- ---- steps of the loops that count and multiply

-- a priority whose odd count is positive is a level, and one whose odd count is zero is none
pub levels_more : (p x : ℕ) (ps : List ℕ) → x ≡ cond (is_odd p) (count_of p ps) 0 → 0 < x →
    levels_below (p + 1) ps ≡ record { priority = p; count = x } ∷ levels_below p ps
levels_more p x ps e some = rw add-one (step (is_odd p) e)
  where
    step : (odd : Bool) → x ≡ cond odd (count_of p ps) 0 →
        cond (odd && nat_lt 0 (count_of p ps)) (record { priority = p; count = count_of p ps } ∷ levels_below p ps) (levels_below p ps) ≡
        record { priority = p; count = x } ∷ levels_below p ps
    step true e = cond-true (nat_lt 0 (count_of p ps)) _ _ (lt-ltb 0 (count_of p ps) (omega arith)) ∙ rw e refl
    step false e = absurd (omega arith)

pub levels_less : (p x : ℕ) (ps : List ℕ) → x ≡ cond (is_odd p) (count_of p ps) 0 → x ≡ 0 → levels_below (p + 1) ps ≡ levels_below p ps
levels_less p x ps e none = rw add-one (step (is_odd p) e)
  where
    step : (odd : Bool) → x ≡ cond odd (count_of p ps) 0 →
        cond (odd && nat_lt 0 (count_of p ps)) (record { priority = p; count = count_of p ps } ∷ levels_below p ps) (levels_below p ps) ≡ levels_below p ps
    step true e = cond-false (nat_lt 0 (count_of p ps)) _ _ (le-ltb 0 (count_of p ps) (omega arith))
    step false e = refl

-- what the loop of `Shape::of` has made in the end
pub weights_made : (ps : List ℕ) (ls : List Level) (ws : List ℕ) (top : ℕ) → ls ≡ levels_of ps → top_of (levels_of ps) ≤ 2 ^ 62 →
    top ≡ product_below (bound_of ps) ps → length ws ≡ bound_of ps + 1 →
    ((p : ℕ) → p < length ws → get_or ws p 0 ≡ product_below p ps) → AreWeights ls ws top
weights_made ps ls ws top made small greatest len each = rw made (record {
  greatest = greatest ∙ sym (top-levels ps);
  limit = small;
  each = λ p h. each p h ∙ sym (weights_are_products ps p);
  beyond = λ p h. weights_are_products ps p ∙ product-beyond p ps (omega arith) ∙ sym (top-levels ps);
})

-- what a push on the weights leaves
pub pushed_weight : (ps ws : List ℕ) (i x : ℕ) → length ws ≡ i + 1 → x ≡ product_below (i + 1) ps →
    ((p : ℕ) → p < length ws → get_or ws p 0 ≡ product_below p ps) →
    (p : ℕ) → p < length (ws ++ x ∷ []) → get_or (ws ++ x ∷ []) p 0 ≡ product_below p ps
pushed_weight ps ws i x len e each p h = elim (cases_lt p (length ws)) [
  | inl less ↦ get_or_append_left ws (x ∷ []) 0 p less ∙ each p less
  | inr more ↦
      (let last : p ≡ i + 1 = omega (arith, length_push ws x) in
      rw last (get_or_push ws x 0 (i + 1) len ∙ e))
]

pub pushed_level : (ps : List ℕ) (ls : List Level) (p x : ℕ) → reverse ls ≡ levels_below p ps → x ≡ cond (is_odd p) (count_of p ps) 0 → 0 < x →
    reverse (ls ++ record { priority = p; count = x } ∷ []) ≡ levels_below (p + 1) ps
pushed_level ps ls p x e counted some =
    reverse-append ls (record { priority = p; count = x } ∷ [])
    ∙ ap (λ ys. record { priority = p; count = x } ∷ ys) e
    ∙ sym (levels_more p x ps counted some)
