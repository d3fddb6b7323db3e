use Rattle.std.proofs.Common.{◌≤◌, ◌-◌, length}
use Rattle.vpg_winners.specs.Winners.{view_of, views}
use Rattle.vpg_winners.proofs.Marking.{HasNoneBefore}
use Rattle.vpg_winners.proofs.pairing.place_of.Given as goal

abbrev pub invariant-loop-place : goal.invariant-loop-place
invariant-loop-place l = record {
  within : l.from ≤ length l.marks;
  none : HasNoneBefore (views l.parts) (view_of l.part) l.from;
}

abbrev pub decreases-loop-place : goal.decreases-loop-place
decreases-loop-place l = length l.marks - l.from
