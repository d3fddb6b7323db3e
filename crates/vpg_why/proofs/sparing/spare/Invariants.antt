use Rattle.std.proofs.Common.{◌≤◌}
use Rattle.vpg_why.specs.Explained.{choices}
use Rattle.vpg_why.specs.Spared.{AreSpared}
use Rattle.vpg_why.proofs.sparing.spare.Given as goal

abbrev pub invariant-trying : goal.invariant-trying
invariant-trying l = record {
  spared : AreSpared l.order.game l.order.diagram l.which l.vertex (choices l.order.decisions) l.spared.items;
  looks : l.looks ≤ l.fn.looks;
}
