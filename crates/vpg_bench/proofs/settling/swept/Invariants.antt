use Rattle.std.proofs.Common.{◌≡◌}
use Rattle.vpg_bench.proofs.settling.swept.Given as goal

abbrev pub invariant-loop-done : goal.invariant-loop-done
invariant-loop-done g l = l.order.game ≡ l.fn.order.game
