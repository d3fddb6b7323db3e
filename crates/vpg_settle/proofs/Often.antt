-- How often an order was swept.
use Rattle.std.proofs.Common.{◌≡◌, ℕ, zero, suc, ◌+◌, ◌⊎◌, inl, inr, refl, sym, subst, arith}
use Rattle.vpg_measure.specs.Orders.{OrderView, HarvestView, IsOrderAgain, IsSettledHarvest}
use Rattle.vpg_settle.specs.Sweeping.{IsSweptOrder, IsSweptBy, swept_of, IsGuessed, AfterGuess, AreSweeps, AreSweepsAlone, Leave}
use Rattle.vpg_settle.proofs.Repeated.{swept_then}

module _ (lifters : ℕ) where
  after_one : (n : ℕ) (order mid again : OrderView) (harvest : HarvestView) → Leave lifters n order mid → IsSweptBy lifters mid harvest → ¬ IsSettledHarvest harvest →
      IsOrderAgain again harvest → Leave lifters (suc n) order again
  after_one zero order mid again harvest left by unsettled is_again =
      (harvest, again, (subst (λ (o : OrderView). IsSweptBy lifters o harvest) (sym left) by, unsettled, is_again, refl))
  after_one (suc n) order mid again harvest (first, next, (first_by, fails, is_next, left)) by unsettled is_again =
      (first, next, (first_by, fails, is_next, after_one n next mid again harvest left by unsettled is_again))

  -- one sweep more, that didn't settle it
  pub left_more : (n : ℕ) (order mid again : OrderView) (harvest : HarvestView) → Leave lifters n order mid → IsSweptBy lifters mid harvest → ¬ IsSettledHarvest harvest →
      IsOrderAgain again harvest → Leave lifters (n + 1) order again
  left_more n order mid again harvest left by unsettled is_again =
      let all : Leave lifters (suc n) order again = after_one n order mid again harvest left by unsettled is_again in
      subst (λ (m : ℕ). Leave lifters m order again) {x = suc n} (omega arith) all

  -- what was made of the order that is left
  pub made_then : (n more : ℕ) (order last : OrderView) (harvest : HarvestView) → Leave lifters n order last → AreSweeps lifters more last harvest → AreSweeps lifters (n + more) order harvest
  made_then zero more order last harvest left made =
      let all : AreSweeps lifters more order harvest = subst (λ (o : OrderView). AreSweeps lifters more o harvest) (sym left) made in
      subst (λ (m : ℕ). AreSweeps lifters m order harvest) {x = more} (omega arith) all
  made_then (suc n) more order last harvest (first, again, (by, unsettled, is_again, left)) made =
      let all : AreSweeps lifters (suc (n + more)) order harvest =
      (first, (by, inr (again, (unsettled, is_again, inl (made_then n more again last harvest left made))))) in
      subst (λ (m : ℕ). AreSweeps lifters m order harvest) {x = suc (n + more)} (omega arith) all

  -- the same, of sweeps alone
  pub alone_then : (n more : ℕ) (order last : OrderView) (harvest : HarvestView) → Leave lifters n order last → AreSweepsAlone lifters more last harvest →
      AreSweepsAlone lifters (n + more) order harvest
  alone_then zero more order last harvest left made =
      let all : AreSweepsAlone lifters more order harvest = subst (λ (o : OrderView). AreSweepsAlone lifters more o harvest) (sym left) made in
      subst (λ (m : ℕ). AreSweepsAlone lifters m order harvest) {x = more} (omega arith) all
  alone_then (suc n) more order last harvest (first, again, (by, unsettled, is_again, left)) made =
      let all : AreSweepsAlone lifters (suc (n + more)) order harvest =
      (first, (by, inr (again, (unsettled, is_again, alone_then n more again last harvest left made)))) in
      subst (λ (m : ℕ). AreSweepsAlone lifters m order harvest) {x = suc (n + more)} (omega arith) all

  -- sweeps alone are sweeps, between which there may be guesses
  pub alone_are : (n : ℕ) (order : OrderView) (harvest : HarvestView) → AreSweepsAlone lifters n order harvest → AreSweeps lifters n order harvest
  alone_are zero order harvest left = left
  alone_are (suc n) order harvest (first, (by, inl last)) = (first, (by, inl last))
  alone_are (suc n) order harvest (first, (by, inr (again, (unsettled, is_again, more)))) =
      (first, (by, inr (again, (unsettled, is_again, inl (alone_are n again harvest more)))))

  -- the same, behind a guess
  pub guessed_then : (n more : ℕ) (order last : OrderView) (harvest : HarvestView) → Leave lifters n order last → AfterGuess more (AreSweeps lifters more) last harvest →
      AfterGuess (n + more) (AreSweeps lifters (n + more)) order harvest
  guessed_then zero more order last harvest left made =
      let all : AfterGuess more (AreSweeps lifters more) order harvest = subst (λ (o : OrderView). AfterGuess more (AreSweeps lifters more) o harvest) (sym left) made in
      subst (λ (m : ℕ). AfterGuess m (AreSweeps lifters m) order harvest) {x = more} (omega arith) all
  guessed_then (suc n) more order last harvest (first, again, (by, unsettled, is_again, left)) made =
      let all : AreSweeps lifters (suc (n + more)) order harvest =
      (first, (by, inr (again, (unsettled, is_again, guessed_then n more again last harvest left made)))) in
      inl (subst (λ (m : ℕ). AreSweeps lifters m order harvest) {x = suc (n + more)} (omega arith) all)

  -- it moved by so much
  pub swept_on : (n more : ℕ) (order last : OrderView) (harvest : HarvestView) → Leave lifters n order last → IsSweptOrder last more harvest → IsSweptOrder order (n + more) harvest
  swept_on zero more order last harvest left further =
      let all : IsSweptOrder order more harvest = subst (λ (o : OrderView). IsSweptOrder o more harvest) (sym left) further in
      subst (λ (m : ℕ). IsSweptOrder order m harvest) (omega arith) all
  swept_on (suc n) more order last harvest (first, again, (by, unsettled, is_again, left)) further =
      let all : IsSweptOrder order (1 + (n + more)) harvest =
      swept_then order again first harvest (n + more) is_again (swept_on n more again last harvest left further) 1 (swept_of lifters order first by).swept unsettled in
      subst (λ (m : ℕ). IsSweptOrder order m harvest) (omega arith) all

  -- one sweep
  pub one_sweep : (order : OrderView) (harvest : HarvestView) → IsSweptBy lifters order harvest → AreSweeps lifters 1 order harvest
  one_sweep order harvest by = (harvest, (by, inl (refl, refl)))

  pub one_alone : (order : OrderView) (harvest : HarvestView) → IsSweptBy lifters order harvest → AreSweepsAlone lifters 1 order harvest
  one_alone order harvest by = (harvest, (by, inl (refl, refl)))

-- a guess, and sweeps from there
pub guess_then : (lifters n : ℕ) (order next : OrderView) (raised harvest : HarvestView) → IsGuessed order raised → IsOrderAgain next raised → AreSweeps lifters n next harvest →
    AfterGuess n (AreSweeps lifters n) order harvest
guess_then lifters n order next raised harvest guess is_next made = inr (raised, (guess, inr (next, (is_next, made))))
