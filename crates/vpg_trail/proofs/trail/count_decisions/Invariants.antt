use Rattle.std.proofs.Common.{◌≡◌, ◌≤◌, length, map, take}
use Rattle.vpg_trail.specs.Page.{decisions_of}
use Rattle.vpg_trail.specs.Shown.{entry_of}
use Rattle.vpg_trail.proofs.trail.count_decisions.Given as goal

abbrev pub invariant-loop-entry : goal.invariant-loop-entry
invariant-loop-entry l = record {
  count : l.count ≡ length (decisions_of (map entry_of (take l.entry-index l.entries)));
  few : l.count ≤ l.entry-index;
}
