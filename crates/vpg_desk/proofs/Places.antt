-- The verdicts of all vertices, one after the other.
use Rattle.std.proofs.Common.{◌≡◌, ◌==◌, ◌<◌, ℕ, zero, suc, List, [], ◌∷◌, length, map, zip, slice_index, refl, sym, arith}
use lib.ListN.{get_elem?}
use mathlib.Core.Option.{some, some-ne-none, some-injective}
use Rattle.vpg_sides.specs.declared.verdict.Verdict.{Verdict}

-- the verdict of a pair of values, by the numbers that stand for the tops
abbrev pub verdict_by : ℕ → ℕ → ℕ × ℕ → Verdict
verdict_by top dual_top values = record { hopeless = values.0 == top; sure = values.1 == dual_top }

-- there are as many verdicts as values in one of two tables of one length
pub count_by : (top dual_top : ℕ) (xs ys : List ℕ) → length xs ≡ length ys → length (map (verdict_by top dual_top) (zip xs ys)) ≡ length xs
count_by top dual_top [] ys e = refl
count_by top dual_top (x ∷ xs) [] e = sym e
count_by top dual_top (x ∷ xs) (y ∷ ys) e = let h = count_by top dual_top xs ys (omega (arith, e)) in omega (arith, h)

-- each verdict is that of the values at its place
pub each_by : (top dual_top : ℕ) (xs ys : List ℕ) (v : ℕ) (one : Verdict) → get_elem? (map (verdict_by top dual_top) (zip xs ys)) v ≡ some one → one ≡ verdict_by top dual_top (slice_index xs v, slice_index ys v)
each_by top dual_top [] ys v one at = absurd (some-ne-none one (sym at))
each_by top dual_top (x ∷ xs) [] v one at = absurd (some-ne-none one (sym at))
each_by top dual_top (x ∷ xs) (y ∷ ys) zero one at = some-injective one (verdict_by top dual_top (x, y)) (sym at)
each_by top dual_top (x ∷ xs) (y ∷ ys) (suc v) one at = each_by top dual_top xs ys v one at

-- what stands in a list stands below its length
pub at_below : {A : Type 0} (xs : List A) (i : ℕ) (v : A) → get_elem? xs i ≡ some v → i < length xs
at_below [] i v e = absurd (some-ne-none v (sym e))
at_below (x ∷ xs) zero v e = omega arith
at_below (x ∷ xs) (suc i) v e = let h = at_below xs i v e in omega arith
