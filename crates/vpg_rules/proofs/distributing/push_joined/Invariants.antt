use Rattle.std.proofs.Common.{◌≡◌, ◌++◌, map, drop}
use Rattle.vpg_rules.specs.Clauses.{joined}
use Rattle.vpg_rules.proofs.distributing.push_joined.Given as goal

abbrev pub invariant-loop-other : goal.invariant-loop-other
invariant-loop-other l = l.clauses.items ++ map (joined l.clause) (drop l.other-index l.others) ≡ l.initial.clauses.items ++ map (joined l.clause) l.others
