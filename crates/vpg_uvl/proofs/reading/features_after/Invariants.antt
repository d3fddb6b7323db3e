use Rattle.std.proofs.Common.{◌≡◌, ◌+◌, ◌<◌, ◌^◌, length}
use Rattle.vpg_uvl.specs.Model.{features_after}
use Rattle.vpg_uvl.specs.Views.{rows_left}
use Rattle.vpg_uvl.proofs.reading.features_after.Given as goal

abbrev pub invariant-loop-next : goal.invariant-loop-next
invariant-loop-next l = record {
  reads : features_after (rows_left l.cursor) ≡ features_after (rows_left l.left);
  room : l.left.start + length l.left.rest.now < 2 ^ 64;
}

abbrev pub decreases-loop-next : goal.decreases-loop-next
decreases-loop-next l = length l.left.rest.now
