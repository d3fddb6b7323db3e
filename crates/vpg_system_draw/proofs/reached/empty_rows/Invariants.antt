use Rattle.std.proofs.Common.{◌≡◌, [], replicate}
use Rattle.vpg_system_draw.proofs.reached.empty_rows.Given as goal

abbrev pub invariant-loop : goal.invariant-loop
invariant-loop l = l.rows.items ≡ replicate l.counter []
