use Rattle.std.proofs.Common.{◌≡◌, ◌≤◌}
use Rattle.vpg_system_draw.specs.Traced.{leaving}
use Rattle.vpg_system_draw.proofs.marks.leaving.Given as goal

abbrev pub invariant-loop-n : goal.invariant-loop-n
invariant-loop-n l = record {
  few : l.count ≤ l.n;
  counted : l.count ≡ leaving l.system.transitions l.state l.n;
}
