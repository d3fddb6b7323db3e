use Rattle.std.proofs.Common.{take}
use Rattle.std.specs.List.{AllByRecursion}
use Rattle.vpg_diagram.specs.Clauses.{MeetsCount}
use Rattle.vpg_diagram.proofs.product.meets_counts.Given as goal

abbrev pub invariant-loop-count : goal.invariant-loop-count
invariant-loop-count l = AllByRecursion (MeetsCount l.features) (take l.count-index l.counts)
