use Rattle.std.proofs.Common.{◌≡◌}
use Rattle.vpg_settle.specs.Sweeping.{Leave}
use Rattle.vpg_settle.proofs.sweeping.by_sweeps_to.Given as goal

abbrev pub invariant-loop-done : goal.invariant-loop-done
invariant-loop-done g l = record {
  left : Leave l.fn.lifters l.done l.fn.order l.order;
  game : l.order.game ≡ l.fn.order.game;
}
