use Rattle.std.proofs.Common.{◌≡◌, length}
use Rattle.vpg_open.proofs.reaching.mark_targets.Given as goal

abbrev pub invariant-loop-edge : goal.invariant-loop-edge
invariant-loop-edge l = length l.marks.items ≡ length l.fn.marks.items
