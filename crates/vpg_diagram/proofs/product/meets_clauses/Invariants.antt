use Rattle.std.proofs.Common.{take}
use Rattle.std.specs.List.{AllByRecursion}
use Rattle.vpg_diagram.specs.Clauses.{MeetsClause}
use Rattle.vpg_diagram.proofs.product.meets_clauses.Given as goal

abbrev pub invariant-loop-clause : goal.invariant-loop-clause
invariant-loop-clause l = AllByRecursion (MeetsClause l.features) (take l.clause-index l.clauses)
