use Rattle.vpg_board.specs.Worked.{Works, SameStand}
use Rattle.vpg_board.proofs.sweeping.work.Given as goal

abbrev pub invariant-claims : goal.invariant-claims
invariant-claims g l = record {
  works : Works l.board l.seat;
  stand : SameStand l.initial.seat.lifter l.seat.lifter;
}
