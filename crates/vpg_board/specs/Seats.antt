-- Boards and seats as callers see them. This project's own.
use Rattle.std.specs.Prelude.{◌≡◌, ℕ, ◌+◌, ◌<◌, ◌≤◌, nat_lt, if◌then◌else◌, Bool, true, false, List, length}
use Rattle.atomic_table.specs.Seated.{TableId}
use Rattle.vpg_measure.specs.Orders.{OrderView}
use Rattle.vpg_board.specs.declared.lifter.Lifter.{Lifter}
use Rattle.vpg_board.specs.Places.{places, values, AreProgress, Below}
use Rattle.vpg_board.specs.Lifters.{opener}
use Rattle.vpg_board.specs.Rule.{times}
use Rattle.vpg_board.specs.Taken.{IsOnBoard}

-- the name of the board, and its order
pub record BoardView : Type 0 where
  pub table : TableId
  pub order : OrderView

-- the board that the seat belongs to, and the seat's knowledge
pub record SeatView : Type 0 where
  pub board : BoardView
  pub lifter : Lifter

-- the opening seat of a new board
abbrev pub opening_seat : BoardView → SeatView
opening_seat board = record { board = board; lifter = opener board.order }

-- only the seen values changed, and none fell
pub record SeesMore (v w : Lifter) : Type 0 where
  pub same : w ≡ record v { seen = w.seen }
  pub wide : length w.seen ≡ length v.seen
  pub more : Below v.seen w.seen

-- the seen values are on or above the order's tables, and below every pair of progress tables
pub record IsSafe (v : Lifter) : Type 0 where
  pub wide : length v.seen ≡ places v.order
  pub over : Below (values v.order) v.seen
  pub under : (t : List ℕ) → AreProgress v.order t → Below v.seen t

-- no place is claimed twice
abbrev pub AreOnce : List ℕ → Type 0
AreOnce claims = (n : ℕ) → times n claims ≤ 1

-- the claims are all places, each once
abbrev pub AreAll : OrderView → List ℕ → Type 0
AreAll order claims = (n : ℕ) → times n claims ≡ (if nat_lt n (places order) then 1 else 0)

-- the seat has merged all that were split
abbrev pub StandsForAll : Lifter → Type 0
StandsForAll v = (v.opening ≡ true) × (v.stands ≡ 1 + v.splits)

-- if the seat has merged all others and found none left, its claims are all places
abbrev pub HasAllAtEnd : Lifter → Type 0
HasAllAtEnd v = StandsForAll v → 0 < v.empty → AreAll v.order v.claims

-- the invariant of the claims of every seat
pub record AreSeatClaims (v : Lifter) : Type 0 where
  pub once : AreOnce v.claims
  pub below : (n : ℕ) → places v.order ≤ n → times n v.claims ≡ 0
  pub room : v.opening ≡ true → v.stands ≤ 1 + v.splits
  pub few : v.splits ≤ 63
  pub all : HasAllAtEnd v

-- the invariant of the fields of a seat
pub record IsSeat (table : TableId) (v : Lifter) (opening : Bool) (count : ℕ) (done : Bool) : Type 0 where
  pub words : table.words ≡ places v.order + 1
  pub stands : 0 < v.stands
  pub safe : IsSafe v
  pub claims : AreSeatClaims v
  pub run : IsOnBoard v
  pub splits : v.splits ≡ count
  pub opens : v.opening ≡ opening
  pub open_claims : done ≡ false → v.empty ≡ 0
  pub no_more : done ≡ true → 0 < v.empty
