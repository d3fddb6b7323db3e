use Rattle.std.proofs.Common.{◌≡◌, ◌+◌, ◌<◌, ◌^◌, length}
use Rattle.vpg_uvl.specs.Attributes.{below_features}
use Rattle.vpg_uvl.specs.Views.{rows_left}
use Rattle.vpg_uvl.proofs.attributes.below_features.Given as goal

abbrev pub invariant-loop-next : goal.invariant-loop-next
invariant-loop-next l = record {
  rows : below_features (rows_left l.cursor) ≡ below_features (rows_left l.left);
  room : l.left.start + length l.left.rest.now < 2 ^ 64;
}

abbrev pub decreases-loop-next : goal.decreases-loop-next
decreases-loop-next l = length l.left.rest.now
