-- The invariant of every run, in two halves that share no word: the measures and the claims. This project's own.
use Rattle.std.specs.Prelude.{◌≡◌, ℕ, ◌+◌, ◌-◌, ◌<◌, ◌≤◌, ◌&&◌, ◌==◌, nat_lt, false, if◌then◌else◌, List, [], ◌∷◌, length}
use mathlib.Core.Option.{some}
use lib.ListN.{get_elem?}
use Rattle.vpg_measure.specs.Orders.{OrderView}
use Rattle.vpg_board.specs.declared.lifter.Lifter.{Lifter}
use Rattle.vpg_board.specs.Places.{places, values, AreProgress, Below}
use Rattle.vpg_board.specs.Run.{BoardState}

-- f of each, added up
abbrev pub total : {A : Type 0} → (A → ℕ) → List A → ℕ
total f [] = 0
total f (x ∷ xs) = f x + total f xs

-- the number of times that n occurs in the list
abbrev pub times : ℕ → List ℕ → ℕ
times n xs = total (λ m. if m == n then 1 else 0) xs

-- one for the opening lifter, or for the one that merged it
abbrev pub openings : Lifter → ℕ
openings v = if v.opening then 1 else 0

-- the values that a lifter has seen are on or above the order's tables, and at most the words
pub record HasSeen (order : OrderView) (measures : List ℕ) (v : Lifter) : Type 0 where
  pub order_is : v.order ≡ order
  pub wide : length v.seen ≡ places order
  pub over : Below (values order) v.seen
  pub under : Below v.seen measures

-- the words are on or above the order's tables and below every pair of progress tables
pub record MeasuresKept (order : OrderView) (b : BoardState) : Type 0 where
  pub wide : length b.measures ≡ places order
  pub over : Below (values order) b.measures
  pub under : (t : List ℕ) → AreProgress order t → Below b.measures t
  pub seen : (i : ℕ) (v : Lifter) → get_elem? b.lifters i ≡ some v → 0 < v.stands → HasSeen order b.measures v

-- The invariant of the claims after any steps. Each number below the claim number is claimed once if it is a place, and
-- no other number is. There are as many empty claims as the claim number exceeds the places by.
pub record ClaimsCounted (order : OrderView) (b : BoardState) : Type 0 where
  pub each : (n : ℕ) →
      total (λ v. times n v.claims) b.lifters ≡ (if nat_lt n b.claimed && nat_lt n (places order) then 1 else 0)
  pub empty : total (λ v. v.empty) b.lifters ≡ b.claimed - places order
  pub stand : total (λ v. v.stands) b.lifters ≡ 1 + total (λ v. v.splits) b.lifters
  pub one : total openings b.lifters ≡ 1
  pub spent : (i : ℕ) (v : Lifter) → get_elem? b.lifters i ≡ some v → v.stands ≡ 0 → (v.claims ≡ []) ×
      (v.opening ≡ false)

-- no lifter has more empty claims than it stands for, and only the opening one has splits
pub record IsFair (v : Lifter) : Type 0 where
  pub bounded : v.empty ≤ v.stands
  pub later : v.opening ≡ false → v.splits ≡ 0

-- The invariant of the claims after steps that seats may take: no seat has more empty claims than seats that it stands
-- for.
pub record ClaimsKept (order : OrderView) (b : BoardState) : Type 0 where
  pub counted : ClaimsCounted order b
  pub limit : total (λ v. v.splits) b.lifters ≤ 63
  pub fair : (i : ℕ) (v : Lifter) → get_elem? b.lifters i ≡ some v → IsFair v
