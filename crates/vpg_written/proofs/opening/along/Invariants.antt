use Rattle.std.proofs.Common.{◌-◌, ◌≤◌, length, take, drop}
use Rattle.vpg_requirement.specs.NormalForms.{NormalForm}
use Rattle.vpg_written.specs.Trees.{Tree, along}
use Rattle.vpg_written.specs.Tasks.{Basis, IsTree, IsTask}
use Rattle.vpg_written.specs.Openings.{IsAlong}
use Rattle.vpg_written.proofs.opening.along.Given as goal

abbrev pub invariant-loop-step : goal.invariant-loop-step
invariant-loop-step l = record {
  start : l.from ≤ l.to;
  end : l.to ≤ length l.regular;
  goes : (g : Basis) (t : Tree) (f : NormalForm) → IsTree g t l.regular → IsTask g l.fn.task f → IsAlong g l.is_every (take (l.to - l.from) (drop l.from l.regular)) l.rest (along g.names l.is_every t f);
}

abbrev pub decreases-loop-step : goal.decreases-loop-step
decreases-loop-step l = l.to - l.from
