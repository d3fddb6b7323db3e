-- Every step keeps the claims.
use Rattle.std.proofs.Common.{◌≡◌, ◌≢◌, ℕ, zero, suc, ◌+◌, ◌-◌, ◌<◌, ◌≤◌, ◌==◌, ◌&&◌, ◌||◌, Bool, true, false, true≢false, cond, List, [], ◌∷◌, ◌++◌, set, refl, sym, ap, ◌∙◌, subst, ⊎_elim, arith, ltb}
use Rattle.std.proofs.lemmas.Bool.Decides.{nat_tests}
use Rattle.std.specs.Prelude.{slice_index}
use mathlib.Core.Option.{some, some-injective, some-ne-none}
use lib.ListN.{get_elem?}
use Rattle.atomic_table.proofs.Lists.{at_set, at_snoc, set_else}
use Rattle.vpg_measure.specs.Orders.{OrderView}
use Rattle.vpg_board.specs.declared.lifter.Lifter.{Lifter}
use Rattle.vpg_board.specs.Places.{places}
use Rattle.vpg_board.specs.Lifters.{opener, spent, sees, claims, splits, newcomer, both}
use Rattle.vpg_board.specs.Run.{BoardState, Move, load, raise, claim, split, join, lifter, IsHere, opened, after, IsStep, May, raised_to}
use Rattle.vpg_board.specs.Rule.{total, times, openings, ClaimsCounted, IsFair, ClaimsKept}
use Rattle.vpg_board.proofs.Totals.{total_set, total_snoc, total_two, total_one, times-append, get_at}

-- what holds of each lifter holds where one is changed, or added
all_set : {P : Lifter → Type 0} (lifters : List Lifter) (i : ℕ) (w : Lifter) → ((j : ℕ) (v : Lifter) → get_elem? lifters j ≡ some v → P v) → P w → (j : ℕ) (u : Lifter) → get_elem? (set lifters i w) j ≡ some u → P u
all_set {P} lifters i w all here j u e =
    ⊎_elim (λ (t : (j ≡ i) × (w ≡ u)). subst P t.1 here) (λ (t : (j ≢ i) × (get_elem? lifters j ≡ some u)). all j u t.1) (at_set lifters i j w u e)

all_snoc : {P : Lifter → Type 0} (lifters : List Lifter) (w : Lifter) → ((j : ℕ) (v : Lifter) → get_elem? lifters j ≡ some v → P v) → P w → (j : ℕ) (u : Lifter) → get_elem? (lifters ++ w ∷ []) j ≡ some u → P u
all_snoc {P} lifters w all here j u e = ⊎_elim (λ (old : get_elem? lifters j ≡ some u). all j u old) (λ (new : w ≡ u). subst P new here) (at_snoc lifters w u j e)

-- a lifter that was taken in has nothing
abbrev Spent : Lifter → Type 0
Spent v = v.stands ≡ 0 → (v.claims ≡ []) × (v.opening ≡ false)

not_opening : (v : Lifter) → openings v ≡ 0 → v.opening ≡ false
not_opening v h = by v.opening refl
  where
    by : (b : Bool) → b ≡ v.opening → v.opening ≡ false
    by true e = absurd (let k : cond true 1 0 ≡ openings v = ap (λ x. cond x 1 0) e in omega arith)
    by false e = sym e

is_opening : (v : Lifter) → v.opening ≡ true → openings v ≡ 1
is_opening v e = ap (λ x. cond x 1 0) e

-- only the first has splits
pub splits_of_opening : (order : OrderView) (b : BoardState) (i : ℕ) (v : Lifter) → ClaimsKept order b → get_elem? b.lifters i ≡ some v → v.opening ≡ true → total (λ u. u.splits) b.lifters ≡ v.splits
splits_of_opening order b i v k at first =
    total_one (λ u. u.splits) b.lifters i v at (λ j u n e.
    let two = total_two openings b.lifters i j v u at e n in
    let mine = is_opening v first in
    let none : openings u ≡ 0 = omega (arith, k.counted.one) in (k.fair j u e).later (not_opening u none))

-- a number after a claim is that number or was there
claimed_once : (k n size : ℕ) → cond (ltb k n && ltb k size) 1 0 + cond (ltb n size) (cond (n == k) 1 0) 0 ≡ cond (ltb k (n + 1) && ltb k size) 1 0
claimed_once k n size = grind (arith, nat_tests)

times_claims : (k size n : ℕ) (v : Lifter) → times k (claims size v n).claims ≡ times k v.claims + cond (ltb n size) (cond (n == k) 1 0) 0
times_claims k size n v = by (ltb n size)
  where
    by : (t : Bool) → times k (cond t (v.claims ++ n ∷ []) v.claims) ≡ times k v.claims + cond t (cond (n == k) 1 0) 0
    by true = omega (arith, times-append k v.claims (n ∷ []))
    by false = omega arith

empty_claims : (c size : ℕ) (v : Lifter) → (claims size v c).empty + (c - size) ≡ v.empty + (c + 1 - size)
empty_claims c size v = by (ltb c size) refl
  where
    by : (t : Bool) → t ≡ ltb c size → cond t v.empty (v.empty + 1) + (c - size) ≡ v.empty + (c + 1 - size)
    by true e = let h : c < size = grind (arith, nat_tests) in omega arith
    by false e = let h : size ≤ c = grind (arith, nat_tests) in omega arith

empty_bound : (c size : ℕ) (v : Lifter) → (claims size v c).empty ≤ v.empty + 1
empty_bound c size v = by (ltb c size)
  where
    by : (t : Bool) → cond t v.empty (v.empty + 1) ≤ v.empty + 1
    by true = omega arith
    by false = omega arith

opening_both : (a b : Bool) → cond a 1 0 + cond b 1 0 ≤ 1 → cond (a || b) 1 0 ≡ cond a 1 0 + cond b 1 0
opening_both true true h = absurd (omega arith)
opening_both true false h = refl
opening_both false true h = refl
opening_both false false h = refl

neither : (a b : Bool) → (a || b) ≡ false → (a ≡ false) × (b ≡ false)
neither true b e = absurd (true≢false e)
neither false b e = (refl, e)

module _ (order : OrderView) where
  abbrev size : ℕ
  size = places order

  abbrev Counted : BoardState → Type 0
  Counted = ClaimsCounted order

  abbrev Kept : BoardState → Type 0
  Kept = ClaimsKept order

  at_of : (b : BoardState) (i : ℕ) → IsHere b i → get_elem? b.lifters i ≡ some (lifter b i)
  at_of b i h = get_at b.lifters i spent (omega (arith, h.0))

  pub counted_opened : Counted (opened order)
  counted_opened = record {
    each = λ n. grind (arith, nat_tests);
    empty = omega arith;
    stand = refl;
    one = refl;
    spent = one;
  }
    where
      one : (i : ℕ) (v : Lifter) → get_elem? (opener order ∷ []) i ≡ some v → Spent v
      one zero v e = subst Spent (some-injective (opener order) v e) (λ h. absurd (omega arith))
      one (suc i) v e = absurd (some-ne-none v (sym e))

  pub claims_opened : Kept (opened order)
  claims_opened = record { counted = counted_opened; limit = omega arith; fair = one }
    where
      one : (i : ℕ) (v : Lifter) → get_elem? (opener order ∷ []) i ≡ some v → IsFair v
      one zero v e = subst IsFair (some-injective (opener order) v e) (record { bounded = omega arith; later = λ h. refl })
      one (suc i) v e = absurd (some-ne-none v (sym e))

  -- a lifter changed in nothing but what it has seen
  same_claims : (b : BoardState) (i : ℕ) (w : Lifter) (table : List ℕ) → Counted b → IsHere b i → w.claims ≡ (lifter b i).claims → w.empty ≡ (lifter b i).empty → w.splits ≡ (lifter b i).splits → w.stands ≡ (lifter b i).stands
      → w.opening ≡ (lifter b i).opening → Counted (record { claimed = b.claimed; measures = table; lifters = set b.lifters i w })
  same_claims b i w table k h e1 e2 e3 e4 e5 =
      let v : Lifter = lifter b i in
      let at = at_of b i h in record {
        each = λ n. let t = total_set (λ u. times n u.claims) b.lifters i v w at in let s = ap (times n) e1 in omega (arith, k.each n);
        empty = let t = total_set (λ u. u.empty) b.lifters i v w at in omega (arith, k.empty);
        stand = let t = total_set (λ u. u.stands) b.lifters i v w at in let s = total_set (λ u. u.splits) b.lifters i v w at in omega (arith, k.stand);
        one = let s = total_set openings b.lifters i v w at in let c : openings w ≡ openings v = ap (λ x. cond x 1 0) e5 in omega (arith, k.one);
        spent = all_set {P = Spent} b.lifters i w k.spent (λ z. let o = k.spent i v at (sym e4 ∙ z) in (e1 ∙ o.0, e5 ∙ o.1));
      }

  -- any step keeps the counts
  pub counted_after : (b : BoardState) (m : Move) → Counted b → IsStep order b m → Counted (after order b m)
  counted_after b (load i p) k is = same_claims b i _ b.measures k is.0 refl refl refl refl refl
  counted_after b (raise i p) k is = same_claims b i _ _ k is.0 refl refl refl refl refl
  counted_after b (claim i) k is =
      let v : Lifter = lifter b i in
      let c : ℕ = b.claimed in
      let w : Lifter = claims size v c in
      let at = at_of b i is in record {
        each = λ n. let t = total_set (λ u. times n u.claims) b.lifters i v w at in let s = times_claims n size c v in let o = claimed_once n c size in omega (arith, k.each n);
        empty = let t = total_set (λ u. u.empty) b.lifters i v w at in let s = empty_claims c size v in omega (arith, k.empty);
        stand = let t = total_set (λ u. u.stands) b.lifters i v w at in let s = total_set (λ u. u.splits) b.lifters i v w at in omega (arith, k.stand);
        one = let s = total_set openings b.lifters i v w at in omega (arith, k.one);
        spent = all_set {P = Spent} b.lifters i w k.spent (λ z. absurd (omega (arith, is.1)));
      }
  counted_after b (split i) k is =
      let v : Lifter = lifter b i in
      let w : Lifter = splits v in
      let u : Lifter = newcomer v in
      let l : List Lifter = set b.lifters i w in
      let at = at_of b i is in record {
        each = λ n. let t = total_set (λ x. times n x.claims) b.lifters i v w at in let s = total_snoc (λ x. times n x.claims) l u in omega (arith, k.each n);
        empty = let t = total_set (λ x. x.empty) b.lifters i v w at in let s = total_snoc (λ x. x.empty) l u in omega (arith, k.empty);
        stand =
            let t = total_set (λ x. x.stands) b.lifters i v w at in let s = total_snoc (λ x. x.stands) l u in
            let p = total_set (λ x. x.splits) b.lifters i v w at in let q = total_snoc (λ x. x.splits) l u in omega (arith, k.stand);
        one = let p = total_set openings b.lifters i v w at in let q = total_snoc openings l u in omega (arith, k.one);
        spent = all_snoc {P = Spent} l u (all_set {P = Spent} b.lifters i w k.spent (k.spent i v at)) (λ z. absurd (omega arith));
      }
  counted_after b (join i j) k is =
      let v : Lifter = lifter b i in
      let w : Lifter = lifter b j in
      let x : Lifter = both v w in
      let l : List Lifter = set b.lifters i x in
      let at = at_of b i is.0 in
      let at' = at_of b j is.1 in
      let there : get_elem? l j ≡ some w = set_else b.lifters i j x is.2 ∙ at' in record {
        each = λ n. let t = total_set (λ y. times n y.claims) b.lifters i v x at in let s = total_set (λ y. times n y.claims) l j w spent there in let a = times-append n v.claims w.claims in omega (arith, k.each n);
        empty = let t = total_set (λ y. y.empty) b.lifters i v x at in let s = total_set (λ y. y.empty) l j w spent there in omega (arith, k.empty);
        stand =
            let t = total_set (λ y. y.stands) b.lifters i v x at in let s = total_set (λ y. y.stands) l j w spent there in
            let p = total_set (λ y. y.splits) b.lifters i v x at in let q = total_set (λ y. y.splits) l j w spent there in omega (arith, k.stand);
        one =
            let p = total_set openings b.lifters i v x at in let q = total_set openings l j w spent there in
            let two = total_two openings b.lifters i j v w at at' is.2 in
            let o = opening_both v.opening w.opening (omega (arith, two, k.one)) in omega (arith, k.one);
        spent = all_set {P = Spent} l j spent (all_set {P = Spent} b.lifters i x k.spent (λ z. absurd (omega (arith, is.0.1)))) (λ z. (refl, refl));
      }

  -- a step that a seat may take keeps the limits, too
  pub claims_after : (b : BoardState) (m : Move) → Kept b → May order b m → Kept (after order b m)
  claims_after b (load i p) k may = let at = at_of b i may.0 in record {
    counted = counted_after b (load i p) k.counted may;
    limit = let s = total_set (λ u. u.splits) b.lifters i (lifter b i) (sees (lifter b i) p (slice_index b.measures p)) at in omega (arith, k.limit);
    fair = all_set {P = IsFair} b.lifters i _ k.fair (let f = k.fair i (lifter b i) at in record { bounded = f.bounded; later = f.later });
  }
  claims_after b (raise i p) k may = let at = at_of b i may.0 in record {
    counted = counted_after b (raise i p) k.counted may;
    limit = let s = total_set (λ u. u.splits) b.lifters i (lifter b i) (sees (lifter b i) p (raised_to order b i p)) at in omega (arith, k.limit);
    fair = all_set {P = IsFair} b.lifters i _ k.fair (let f = k.fair i (lifter b i) at in record { bounded = f.bounded; later = f.later });
  }
  claims_after b (claim i) k may =
      let v : Lifter = lifter b i in
      let c : ℕ = b.claimed in
      let w : Lifter = claims size v c in
      let at = at_of b i may.0 in record {
        counted = counted_after b (claim i) k.counted may.0;
        limit = let s = total_set (λ u. u.splits) b.lifters i v w at in omega (arith, k.limit);
        fair = all_set {P = IsFair} b.lifters i w k.fair (record { bounded = let e = empty_bound c size v in omega (arith, may.1, may.0.1); later = (k.fair i v at).later });
      }
  claims_after b (split i) k may =
      let v : Lifter = lifter b i in
      let w : Lifter = splits v in
      let u : Lifter = newcomer v in
      let l : List Lifter = set b.lifters i w in
      let at = at_of b i may.0 in record {
        counted = counted_after b (split i) k.counted may.0;
        limit =
            let p = total_set (λ x. x.splits) b.lifters i v w at in let q = total_snoc (λ x. x.splits) l u in
            let mine = splits_of_opening order b i v k at may.1 in omega (arith, may.2);
        fair = all_snoc {P = IsFair} l u (all_set {P = IsFair} b.lifters i w k.fair (record { bounded = (k.fair i v at).bounded; later = λ z. absurd (true≢false (sym may.1 ∙ z)) }))
            (record { bounded = omega arith; later = λ z. refl });
      }
  claims_after b (join i j) k may =
      let v : Lifter = lifter b i in
      let w : Lifter = lifter b j in
      let x : Lifter = both v w in
      let l : List Lifter = set b.lifters i x in
      let at = at_of b i may.0 in
      let at' = at_of b j may.1 in
      let there : get_elem? l j ≡ some w = set_else b.lifters i j x may.2 ∙ at' in
      let f = k.fair i v at in
      let g = k.fair j w at' in record {
        counted = counted_after b (join i j) k.counted may;
        limit = let p = total_set (λ y. y.splits) b.lifters i v x at in let q = total_set (λ y. y.splits) l j w spent there in omega (arith, k.limit);
        fair = all_set {P = IsFair} l j spent (all_set {P = IsFair} b.lifters i x k.fair (record { bounded = omega (arith, f.bounded, g.bounded); later = λ z. let n = neither v.opening w.opening z in omega (arith, f.later n.0, g.later n.1) }))
            (record { bounded = omega arith; later = λ z. refl });
      }
