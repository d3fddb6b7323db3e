use Rattle.std.proofs.Common.{◌≡◌, ◌++◌, drop}
use Rattle.vpg_diagram.specs.Clauses.{pair_clauses}
use Rattle.vpg_diagram.proofs.building.push_pairs.Given as goal

abbrev pub invariant-loop-i : goal.invariant-loop-i
invariant-loop-i l = l.clauses.items ++ pair_clauses (drop l.i l.members) ≡ l.fn.clauses.items ++ pair_clauses l.members
