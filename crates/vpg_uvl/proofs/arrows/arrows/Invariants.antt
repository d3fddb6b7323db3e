use Rattle.std.proofs.Common.{◌≡◌, ◌+◌, ◌≤◌, drop}
use Rattle.vpg_uvl.specs.Arrows.{arrows, arrows_from}
use Rattle.vpg_uvl.proofs.arrows.arrows.Given as goal

abbrev pub invariant-loop-b : goal.invariant-loop-b
invariant-loop-b l = record {
  shallow : l.depth ≤ l.b-index;
  few : l.count ≤ l.b-index;
  rest : l.count + arrows_from l.depth l.before (drop l.b-index l.text) ≡ arrows l.text;
}
