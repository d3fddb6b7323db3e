use Rattle.std.proofs.Common.{◌≡◌, ◌≤◌, take, length}
use Rattle.vpg_winners.proofs.joining.same_front.Given as goal

abbrev pub invariant-loop-i : goal.invariant-loop-i
invariant-loop-i l = record {
  within : l.i ≤ length l.other;
  same : take l.i l.one ≡ take l.i l.other;
}
