use Rattle.std.proofs.Common.{◌≡◌, ◌+◌, ◌≤◌, drop}
use Rattle.vpg_uvl.specs.Places.{column_after}
use Rattle.vpg_uvl.proofs.places.column_after.Given as goal

abbrev pub invariant-loop-b : goal.invariant-loop-b
invariant-loop-b l = record {
  few : l.column ≤ l.b-index + 1;
  rest : column_after l.column (drop l.b-index l.bytes) ≡ column_after 1 l.bytes;
}
