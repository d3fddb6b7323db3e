use Rattle.std.proofs.Common.{◌≡◌, ◌+◌, ◌≤◌, length}
use Rattle.vpg_uvl.specs.Rows.{rows_from, parts_of}
use Rattle.vpg_uvl.specs.Views.{rows_left}
use Rattle.vpg_uvl.proofs.row.next_row.Given as goal

abbrev pub invariant-loop-rest : goal.invariant-loop-rest
invariant-loop-rest l = record {
  rows : rows_left l.cursor ≡ rows_from l.start (parts_of l.rest);
  count : l.start + length l.rest ≡ l.cursor.start + length l.cursor.rest.now;
  shorter : length l.rest ≤ length l.cursor.rest.now;
}

abbrev pub decreases-loop-rest : goal.decreases-loop-rest
decreases-loop-rest l = length l.rest
