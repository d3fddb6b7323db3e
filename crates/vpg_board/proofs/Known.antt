-- What holds of one lifter, by the rule of all.
use Rattle.std.proofs.Common.{◌≡◌, ◌≢◌, ℕ, suc, ◌+◌, ◌<◌, ◌≤◌, ◌&&◌, true, cond, List, [], ◌∷◌, refl, sym, ap, ◌∙◌, subst, arith, ltb}
use Rattle.std.proofs.lemmas.Bool.Decides.{nat_tests}
use mathlib.Core.Option.{some}
use mathlib.Core.Logic.{dite}
use native.Mathlib.Decide.{dec_lt}
use lib.ListN.{get_elem?}
use Rattle.vpg_measure.specs.Orders.{OrderView, IsOrder}
use Rattle.vpg_board.specs.declared.lifter.Lifter.{Lifter}
use Rattle.vpg_board.specs.Places.{places, values, AreProgress, Below}
use Rattle.vpg_board.specs.Lifters.{opener, splits, newcomer}
use Rattle.vpg_board.specs.Run.{BoardState, Move, load, raise, claim, split, join, ran, IsStep, IsRun, May, IsBoardRun, Reached}
use Rattle.vpg_board.specs.Rule.{total, times, HasSeen, MeasuresKept, ClaimsCounted, ClaimsKept}
use Rattle.vpg_board.specs.Seats.{IsSafe, AreSeatClaims}
use Rattle.vpg_board.proofs.Totals.{total_ge, total_two, total_one}
use Rattle.vpg_board.proofs.Tables.{below_self, below_trans}
use Rattle.vpg_board.proofs.Halves.{values_wide, values_below, lift_stays}
use Rattle.vpg_board.proofs.Measures.{measures_opened, measures_after}
use Rattle.vpg_board.proofs.Claiming.{splits_of_opening, counted_opened, counted_after, claims_opened, claims_after}

total_le : {A : Type 0} (f g : A → ℕ) (xs : List A) → ((i : ℕ) (v : A) → get_elem? xs i ≡ some v → f v ≤ g v) → total f xs ≤ total g xs
total_le f g [] h = omega arith
total_le f g (x ∷ xs) h = let a = h 0 x refl in let b = total_le f g xs (λ i v e. h (suc i) v e) in omega arith

-- the claim word stays small
pub claim_word : (order : OrderView) (b : BoardState) → ClaimsKept order b → b.claimed ≤ places order + 64
claim_word order b k = let a = total_le (λ v. v.empty) (λ v. v.stands) b.lifters (λ i v e. (k.fair i v e).bounded) in omega (arith, k.counted.empty, k.counted.stand, k.limit)

not_both : (n c size : ℕ) → size ≤ n → cond {A = ℕ} (ltb n c && ltb n size) 1 0 ≡ 0
not_both n c size h = grind (arith, nat_tests)

at_most : (n c size : ℕ) → cond (ltb n c && ltb n size) 1 0 ≤ 1
at_most n c size = grind (arith, nat_tests)

past_word : (n c size : ℕ) → c ≤ n → cond {A = ℕ} (ltb n c && ltb n size) 1 0 ≡ 0
past_word n c size h = grind (arith, nat_tests)

all_claimed : (n c size : ℕ) → size < c → cond {A = ℕ} (ltb n c && ltb n size) 1 0 ≡ cond (ltb n size) 1 0
all_claimed n c size h = grind (arith, nat_tests)

-- a claim is below the claim word
pub below_word : (order : OrderView) (b : BoardState) (i : ℕ) (v : Lifter) → ClaimsKept order b → get_elem? b.lifters i ≡ some v → (m : ℕ) → 0 < times m v.claims → m < b.claimed
below_word order b i v k at m some_claim = dite (dec_lt m b.claimed) (λ h. h)
    (λ h. absurd (let a = total_ge (λ u. times m u.claims) b.lifters i v at in omega (arith, k.counted.each m, past_word m b.claimed (places order) (omega arith))))

-- what holds of a lifter's claims
pub claims_of_seat : (order : OrderView) (b : BoardState) (i : ℕ) (v : Lifter) → ClaimsKept order b → get_elem? b.lifters i ≡ some v → v.order ≡ order → AreSeatClaims v
claims_of_seat order b i v k at same =
    let size : places v.order ≡ places order = ap (λ x. places x) same in record {
      once = λ n. let a = total_ge (λ u. times n u.claims) b.lifters i v at in omega (arith, k.counted.each n, at_most n b.claimed (places order));
      below = λ n h. let a = total_ge (λ u. times n u.claims) b.lifters i v at in omega (arith, k.counted.each n, not_both n b.claimed (places order) (omega arith));
      room = λ opens. let a = total_ge (λ u. u.stands) b.lifters i v at in let s = splits_of_opening order b i v k at opens in omega (arith, k.counted.stand);
      few = let a = total_ge (λ u. u.splits) b.lifters i v at in omega (arith, k.limit);
      all = λ only some_empty n.
          let s = splits_of_opening order b i v k at only.0 in
          let e = total_ge (λ u. u.empty) b.lifters i v at in
          let whole : total (λ u. u.stands) b.lifters ≡ v.stands = omega (arith, k.counted.stand, only.1) in
          let one = total_one (λ u. times n u.claims) b.lifters i v at (λ j u apart there.
          let two = total_two (λ x. x.stands) b.lifters i j v u at there apart in
          let none : u.stands ≡ 0 = omega arith in ap (times n) (k.counted.spent j u there none).0) in
          let bound : places order < b.claimed = omega (arith, k.counted.empty) in
          sym one ∙ k.counted.each n ∙ all_claimed n b.claimed (places order) bound ∙ ap (λ z. cond (ltb n z) 1 0) (sym size);
    }

-- two lifters of a board claimed different places
pub claims_apart : (order : OrderView) (b : BoardState) (i j : ℕ) (v w : Lifter) → ClaimsKept order b → get_elem? b.lifters i ≡ some v → get_elem? b.lifters j ≡ some w → j ≢ i → (n : ℕ) → times n v.claims + times n w.claims ≤ 1
claims_apart order b i j v w k at there apart n =
    let two = total_two (λ u. times n u.claims) b.lifters i j v w at there apart in
    omega (arith, k.counted.each n, at_most n b.claimed (places order))

-- what a lifter has seen is safe
pub safe_of_seat : (order : OrderView) (measures : List ℕ) (v : Lifter) → HasSeen order measures v → ((t : List ℕ) → AreProgress order t → Below measures t) → IsSafe v
safe_of_seat order measures v h under = record {
  wide = h.wide ∙ ap (λ x. places x) (sym h.order_is);
  over = subst (λ x. Below (values x) v.seen) (sym h.order_is) h.over;
  under = subst (λ x. (t : List ℕ) → AreProgress x t → Below v.seen t) (sym h.order_is) (λ t is. below_trans v.seen measures t h.under (under t is));
}

module _ (order : OrderView) where
  -- every run keeps the counts
  pub counted_of_run : (ms : List Move) → IsRun order ms → ClaimsCounted order (ran order ms)
  counted_of_run [] is = counted_opened order
  counted_of_run (m ∷ ms) is = counted_after order (ran order ms) m (counted_of_run ms is.0) is.1

  -- every run that seats may take keeps the claims
  pub claims_of_run : (ms : List Move) → IsBoardRun order ms → ClaimsKept order (ran order ms)
  claims_of_run [] is = claims_opened order
  claims_of_run (m ∷ ms) is = claims_after order (ran order ms) m (claims_of_run ms is.0) is.1

  pub claims_reached : (b : BoardState) → Reached order b → ClaimsKept order b
  claims_reached b r = subst (ClaimsKept order) r.2 (claims_of_run r.0 r.1)

  -- what seats may do are steps
  is_step : (b : BoardState) (m : Move) → May order b m → IsStep order b m
  is_step b (load i p) may = may
  is_step b (raise i p) may = may
  is_step b (claim i) may = may.0
  is_step b (split i) may = may.0
  is_step b (join i j) may = may

  pub is_run : (ms : List Move) → IsBoardRun order ms → IsRun order ms
  is_run [] is = tt
  is_run (m ∷ ms) is = (is_run ms is.0, is_step (ran order ms) m is.1)

  -- every run keeps the measures
  pub measures_of_run : IsOrder order → (ms : List Move) → IsRun order ms → MeasuresKept order (ran order ms)
  measures_of_run is [] run = measures_opened order (values_wide order is) (values_below order is)
  measures_of_run is (m ∷ ms) run = measures_after order (lift_stays order) (ran order ms) m (measures_of_run is ms run.0) run.1

  pub measures_reached : IsOrder order → (b : BoardState) → Reached order b → MeasuresKept order b
  measures_reached is b r = subst (MeasuresKept order) r.2 (measures_of_run is r.0 (is_run r.0 r.1))

pub claims_of_opener : (order : OrderView) → AreSeatClaims (opener order)
claims_of_opener order = record { once = λ n. omega arith; below = λ n h. refl; room = λ f. omega arith; few = omega arith; all = λ only e. absurd (omega arith) }

pub claims_of_splits : (v : Lifter) → v.opening ≡ true → v.splits < 63 → AreSeatClaims v → AreSeatClaims (splits v)
claims_of_splits v opens few k = record { once = k.once; below = k.below; room = λ f. omega (arith, k.room opens); few = omega arith; all = λ only e. absurd (omega (arith, k.room opens, only.1)) }

pub claims_of_newcomer : (v : Lifter) → AreSeatClaims (newcomer v)
claims_of_newcomer v = record { once = λ n. omega arith; below = λ n h. refl; room = λ f. omega arith; few = omega arith; all = λ only e. absurd (omega arith) }

pub safe_of_opener : (order : OrderView) → IsOrder order → IsSafe (opener order)
safe_of_opener order is = record { wide = values_wide order is; over = below_self (values order); under = values_below order is }
