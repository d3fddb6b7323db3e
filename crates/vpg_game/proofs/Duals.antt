-- Priorities that are all greater by two.
use Rattle.std.proofs.Common.{ℕ, zero, suc, inl, inr, ◌≡◌, ◌+◌, ◌*◌, ◌≤◌, ◌==◌, cond, List, [], ◌∷◌, map, refl, sym, ap, ◌∙◌, zero-add, arith}
use Rattle.std.proofs.lemmas.Bool.{cases_eq, eq-eqb, ne_eqb}
use Rattle.std.proofs.lemmas.List.Sums.{sum_by-cons}
use Rattle.vpg_game.specs.Levels.{is_odd, count_of, bound_of, product_below}
use Rattle.vpg_game.specs.Levels.{DualOfDualHasTop}
use Rattle.vpg_game.proofs.Products.{top-levels, product-beyond}

abbrev twice_dual : List ℕ → List ℕ
twice_dual ps = map (λ p. p + 1) (map (λ p. p + 1) ps)

same_test : (q p : ℕ) → (q + 1 + 1 == suc (suc p)) ≡ (q == p)
same_test q p = elim (cases_eq q p) [
  | inl same ↦ eq-eqb (q + 1 + 1) (suc (suc p)) (omega arith) ∙ sym (eq-eqb q p same)
  | inr other ↦ ne_eqb (q + 1 + 1) (suc (suc p)) (λ e. other (omega arith)) ∙ sym (ne_eqb q p other)
]

count-twice : (p : ℕ) (ps : List ℕ) → count_of (suc (suc p)) (twice_dual ps) ≡ count_of p ps
count-twice p [] = refl
count-twice p (q ∷ ps) =
    sum_by-cons (λ x. cond (x == suc (suc p)) 1 0) (q + 1 + 1) (twice_dual ps)
    ∙ ap (λ b. cond b 1 0 + count_of (suc (suc p)) (twice_dual ps)) (same_test q p)
    ∙ ap (λ n. cond (q == p) 1 0 + n) (count-twice p ps)
    ∙ sym (sum_by-cons (λ x. cond (x == p) 1 0) q ps)

-- one doesn't occur
count-one : (ps : List ℕ) → count_of 1 (twice_dual ps) ≡ 0
count-one [] = refl
count-one (q ∷ ps) =
    sum_by-cons (λ x. cond (x == 1) 1 0) (q + 1 + 1) (twice_dual ps)
    ∙ ap (λ b. cond b 1 0 + count_of 1 (twice_dual ps)) (ne_eqb (q + 1 + 1) 1 (λ e. omega arith))
    ∙ zero-add (count_of 1 (twice_dual ps))
    ∙ count-one ps

odd-twice : (p : ℕ) → is_odd (suc (suc p)) ≡ is_odd p
odd-twice p = ap (λ r. r == 1) (omega arith)

product-twice : (p : ℕ) (ps : List ℕ) → product_below (suc (suc p)) (twice_dual ps) ≡ product_below p ps
product-twice zero ps = ap (λ c. (c + 1) * 1) (count-one ps)
product-twice (suc p) ps =
    ap (λ b. cond b ((count_of (suc (suc p)) (twice_dual ps) + 1) * product_below (suc (suc p)) (twice_dual ps)) (product_below (suc (suc p)) (twice_dual ps))) (odd-twice p)
    ∙ ap (λ c. cond (is_odd p) ((c + 1) * product_below (suc (suc p)) (twice_dual ps)) (product_below (suc (suc p)) (twice_dual ps))) (count-twice p ps)
    ∙ ap (λ t. cond (is_odd p) ((count_of p ps + 1) * t) t) (product-twice p ps)

bound-twice : (ps : List ℕ) → bound_of (twice_dual ps) ≤ suc (suc (bound_of ps))
bound-twice [] = omega arith
bound-twice (p ∷ ps) = omega (arith, bound-twice ps)

pub dual_of_dual_has_top : DualOfDualHasTop
dual_of_dual_has_top ps =
    top-levels (twice_dual ps)
    ∙ sym (product-beyond (suc (suc (bound_of ps))) (twice_dual ps) (bound-twice ps))
    ∙ product-twice (bound_of ps) ps
    ∙ sym (top-levels ps)
