-- The work of lifters in a sweep. This project's own.
use Rattle.std.specs.Prelude.{◌≡◌, ℕ, ◌+◌, ◌<◌, ◌≤◌, slice_index}
use Rattle.vpg_measure.specs.Orders.{IsOrder}
use Rattle.vpg_board.specs.declared.lifter.Lifter.{Lifter}
use Rattle.vpg_board.specs.Places.{values, lift_at}
use Rattle.vpg_board.specs.Rule.{times}
use Rattle.vpg_board.specs.Seats.{BoardView, SeatView, IsSafe, HasAllAtEnd}

-- at each place that it claimed, it has seen at least the lift of the order's tables
abbrev pub Worked : Lifter → Type 0
Worked v = (p : ℕ) → 0 < times p v.claims → lift_at v.order (values v.order) p ≤ slice_index v.seen p

-- a seat of the board that lifted what it claimed
pub record Works (board : BoardView) (seat : SeatView) : Type 0 where
  pub order : IsOrder board.order
  pub own : board.order ≡ seat.lifter.order
  pub board_is : seat.board ≡ board
  pub safe : IsSafe seat.lifter
  pub worked : Worked seat.lifter

-- it stands for as many more seats as it split off more
pub record SameStand (v w : Lifter) : Type 0 where
  pub opening : w.opening ≡ v.opening
  pub stands : w.stands + v.splits ≡ v.stands + w.splits

-- a seat that worked until none was left, and merged the seats that it split off
pub record HasWorked (board : BoardView) (before : Lifter) (seat : SeatView) : Type 0 where
  pub works : Works board seat
  pub stand : SameStand before seat.lifter
  pub none_left : 0 < seat.lifter.empty
  pub all : HasAllAtEnd seat.lifter
