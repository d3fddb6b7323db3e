use Rattle.std.proofs.Common.{take}
use Rattle.vpg_hope.proofs.ChangeSteps.{AreMarked}
use Rattle.vpg_hope.proofs.changes.mark_each.Given as goal

-- the vertices so far are marked
abbrev pub invariant-loop-v : goal.invariant-loop-v
invariant-loop-v l = AreMarked (take l.v-index l.vertices) l.initial.marks l.marks
