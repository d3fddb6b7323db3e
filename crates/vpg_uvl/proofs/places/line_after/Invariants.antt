use Rattle.std.proofs.Common.{◌≡◌, ◌+◌, ◌≤◌, drop}
use Rattle.vpg_uvl.specs.Places.{line_after}
use Rattle.vpg_uvl.proofs.places.line_after.Given as goal

abbrev pub invariant-loop-b : goal.invariant-loop-b
invariant-loop-b l = record {
  few : l.line ≤ l.b-index + 1;
  rest : line_after l.line (drop l.b-index l.bytes) ≡ line_after 1 l.bytes;
}
