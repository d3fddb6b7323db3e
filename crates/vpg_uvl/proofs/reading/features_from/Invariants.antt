use Rattle.std.proofs.Common.{◌≡◌, ◌+◌, ◌<◌, ◌^◌, length}
use Rattle.vpg_uvl.specs.Model.{features_from}
use Rattle.vpg_uvl.specs.Views.{rows_left, growth_of, AreNumbered}
use Rattle.vpg_uvl.proofs.reading.features_from.Given as goal

abbrev pub invariant-loop-next : goal.invariant-loop-next
invariant-loop-next l = record {
  reads : features_from (growth_of l.fn.growth) (rows_left l.cursor) ≡ features_from (growth_of l.growth) (rows_left l.left);
  numbered : AreNumbered (growth_of l.growth);
  room : l.left.start + length l.left.rest.now < 2 ^ 64;
}

abbrev pub decreases-loop-next : goal.decreases-loop-next
decreases-loop-next l = length l.left.rest.now
