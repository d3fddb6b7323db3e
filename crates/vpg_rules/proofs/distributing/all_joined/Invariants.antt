use Rattle.std.proofs.Common.{◌≡◌, ◌++◌, drop}
use Rattle.vpg_rules.specs.Clauses.{crossed}
use Rattle.vpg_rules.proofs.distributing.all_joined.Given as goal

abbrev pub invariant-loop-clause : goal.invariant-loop-clause
invariant-loop-clause l = l.clauses.items ++ crossed (drop l.clause-index l.first) l.second ≡ crossed l.first l.second
