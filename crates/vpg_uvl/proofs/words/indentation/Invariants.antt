use Rattle.std.proofs.Common.{◌≡◌, ◌≤◌, ◌^◌, drop}
use Rattle.vpg_uvl.specs.Rows.{columns_after}
use Rattle.vpg_uvl.proofs.words.indentation.Given as goal

abbrev pub invariant-loop-b : goal.invariant-loop-b
invariant-loop-b l = record {
  small : l.column ≤ 2 ^ 32;
  rest : columns_after l.column (drop l.b-index l.bytes) ≡ columns_after 0 l.bytes;
}
