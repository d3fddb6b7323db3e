use Rattle.std.proofs.Common.{◌≡◌, ◌≤◌, length}
use Rattle.vpg_formula.specs.EntryReading.{visit, standings_of}
use Rattle.vpg_formula.specs.EntryCode.{visit_of, earlier_of}
use Rattle.vpg_formula.proofs.uses.standings.Given as goal

abbrev pub invariant-loop-rest : goal.invariant-loop-rest
invariant-loop-rest l = record {
  within : length l.rest ≤ length l.marks;
  visits : standings_of (earlier_of l.entries) l.marks ≡ (visit (earlier_of l.entries) l.rest (visit_of l.visit)).1;
}

abbrev pub decreases-loop-rest : goal.decreases-loop-rest
decreases-loop-rest l = length l.rest
