use Rattle.std.proofs.Common.{◌≡◌, ◌++◌, drop}
use Rattle.vpg_diagram.specs.Clauses.{parent_clauses}
use Rattle.vpg_diagram.proofs.building.push_parents.Given as goal

abbrev pub invariant-loop-member : goal.invariant-loop-member
invariant-loop-member l = l.clauses.items ++ parent_clauses l.parent (drop l.member-index l.members) ≡ l.fn.clauses.items ++ parent_clauses l.parent l.members
