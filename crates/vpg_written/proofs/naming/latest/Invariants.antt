use Rattle.std.proofs.Common.{◌≡◌, ◌≤◌, length}
use Rattle.vpg_written.specs.Naming.{names_of, latest_before}
use Rattle.vpg_written.proofs.naming.latest.Given as goal

abbrev pub invariant-loop-number : goal.invariant-loop-number
invariant-loop-number l = record {
  within : l.number ≤ l.entry;
  finds : l.entry ≤ length l.terms → latest_before (names_of l.terms) l.entry l.name ≡ latest_before (names_of l.terms) l.number l.name;
}

abbrev pub decreases-loop-number : goal.decreases-loop-number
decreases-loop-number l = l.number
