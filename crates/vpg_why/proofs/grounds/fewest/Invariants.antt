use Rattle.std.proofs.Common.{◌≤◌, length}
use Rattle.vpg_why.proofs.grounds.fewest.Given as goal

abbrev pub invariant-loop : goal.invariant-loop
invariant-loop l = l.most ≤ length l.decisions
