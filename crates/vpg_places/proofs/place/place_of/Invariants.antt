use Rattle.std.proofs.Common.{◌≡◌, ◌≤◌, ◌+◌, take}
use Rattle.vpg_places.specs.Places.{line_of, column_of}
use Rattle.vpg_places.proofs.place.place_of.Given as goal

abbrev pub invariant-loop-b : goal.invariant-loop-b
invariant-loop-b l = record {
  line : l.line ≡ line_of (take l.b-index l.before);
  column : l.column ≡ column_of (take l.b-index l.before);
  line_within : l.line ≤ l.b-index + 1;
  column_within : l.column ≤ l.b-index + 1;
}
