use Rattle.std.proofs.Common.{◌≡◌, ◌+◌, ◌++◌, ◌<◌, ◌^◌, List, length}
use Rattle.std.specs.List.{AllZip}
use Rattle.vpg_uvl.specs.Rows.{Row}
use Rattle.vpg_uvl.specs.Model.{SpellsConstraint}
use Rattle.vpg_uvl.specs.Views.{rows_left}
use Rattle.vpg_uvl.proofs.reading.read_constraints.Given as goal

abbrev pub invariant-loop-next : goal.invariant-loop-next
invariant-loop-next l = record {
  before : List Row;
  parts : rows_left l.cursor ≡ before ++ rows_left l.left;
  spelled : AllZip (SpellsConstraint l.fn.tree.names) before l.tree.constraints;
  same : l.tree ≡ record l.fn.tree { constraints = l.tree.constraints };
  room : l.left.start + length l.left.rest.now < 2 ^ 64;
}

abbrev pub decreases-loop-next : goal.decreases-loop-next
decreases-loop-next l = length l.left.rest.now
