use Rattle.std.proofs.Common.{◌≡◌}
use Rattle.vpg_bench.proofs.settling.lift_all.Given as goal

abbrev pub invariant-loop : goal.invariant-loop
invariant-loop l = l.seat.board ≡ l.board
