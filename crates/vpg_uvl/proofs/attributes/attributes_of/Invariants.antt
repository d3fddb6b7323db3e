use Rattle.std.proofs.Common.{◌≡◌, ◌+◌, ◌++◌, ◌<◌, ◌^◌, length}
use Rattle.vpg_uvl.specs.Attributes.{attributes_of}
use Rattle.vpg_uvl.specs.Views.{rows_left}
use Rattle.vpg_uvl.proofs.attributes.attributes_of.Given as goal

abbrev pub invariant-loop-next : goal.invariant-loop-next
invariant-loop-next l = record {
  rows : attributes_of (rows_left l.cursor) ≡ l.places.items ++ attributes_of (rows_left l.left);
  room : l.left.start + length l.left.rest.now < 2 ^ 64;
}

abbrev pub decreases-loop-next : goal.decreases-loop-next
decreases-loop-next l = length l.left.rest.now
