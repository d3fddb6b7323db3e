use Rattle.std.proofs.Common.{◌≡◌, ◌-◌, ◌++◌, drop, reverse}
use Rattle.vpg_trace.specs.Walks.{depth_before, waiting_from}
use Rattle.vpg_trace.proofs.walking.wait.Given as goal

-- those of the last moves wait
abbrev pub invariant-loop-i : goal.invariant-loop-i
invariant-loop-i l = record {
  depth : l.own ≡ depth_before l.depth (drop (l.count - l.i) l.moves);
  waits : reverse l.pending.items ≡ waiting_from l.at l.depth (drop (l.count - l.i) l.moves) ++ reverse l.fn.pending.items;
}
