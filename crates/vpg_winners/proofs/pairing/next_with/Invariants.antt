use Rattle.std.proofs.Common.{◌≤◌}
use Rattle.vpg_winners.specs.Pairs.{HasNot}
use Rattle.vpg_winners.proofs.pairing.next_with.Given as goal

abbrev pub invariant-loop-place : goal.invariant-loop-place
invariant-loop-place l = record {
  later : l.from ≤ l.place;
  before : HasNot l.marks l.from l.mark l.place;
}
