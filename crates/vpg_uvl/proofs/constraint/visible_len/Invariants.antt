use Rattle.std.proofs.Common.{◌≤◌}
use Rattle.vpg_uvl.proofs.constraint.visible_len.Given as goal

abbrev pub invariant-loop-at : goal.invariant-loop-at
invariant-loop-at l = l.len ≤ l.at
