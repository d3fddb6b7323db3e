use Rattle.vpg_board.specs.Worked.{Works, SameStand}
use Rattle.vpg_board.proofs.sweeping.lift_hinted.Given as goal

abbrev pub invariant-hinted : goal.invariant-hinted
invariant-hinted g l = record {
  works : Works l.board l.seat;
  stand : SameStand l.initial.seat.lifter l.seat.lifter;
}
