use Rattle.std.proofs.Common.{◌≡◌, ◌+◌, ◌≤◌, reverse, length}
use Rattle.vpg_formula.specs.EntryReading.{first_like}
use Rattle.vpg_formula.proofs.Lengths.{shifted}
use Rattle.vpg_formula.proofs.uses.first.Given as goal

abbrev pub invariant-loop-rest : goal.invariant-loop-rest
invariant-loop-rest l = record {
  within : l.at + length l.rest ≤ length l.standings;
  finds : first_like l.wanted (reverse l.standings) ≡ shifted l.at (first_like l.wanted (reverse l.rest));
}

abbrev pub decreases-loop-rest : goal.decreases-loop-rest
decreases-loop-rest l = length l.rest
