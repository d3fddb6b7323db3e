use Rattle.std.proofs.Common.{◌-◌, ◌≤◌, length, take, drop}
use Rattle.vpg_written.specs.Trees.{Tree}
use Rattle.vpg_written.specs.Tasks.{Basis, IsTree}
use Rattle.vpg_written.specs.Openings.{IsSame}
use Rattle.vpg_written.proofs.opening.without_negations.Given as goal

abbrev pub invariant-loop-start : goal.invariant-loop-start
invariant-loop-start l = record {
  start : l.from ≤ l.to;
  end : l.to ≤ length l.formula;
  goes : (g : Basis) (t : Tree) → IsTree g t l.formula → IsSame g t l.is_negated (take (l.to - l.from) (drop l.from l.formula)) l.sign;
}

abbrev pub decreases-loop-start : goal.decreases-loop-start
decreases-loop-start l = l.to - l.from
