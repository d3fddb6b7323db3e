use Rattle.vpg_game.specs.Game.{graph_of}
use Rattle.vpg_hope.proofs.ChangeSteps.{AreMarkedBelow}
use Rattle.vpg_hope.proofs.changes.mark_all.Given as goal

-- the features so far
abbrev pub invariant-loop-f : goal.invariant-loop-f
invariant-loop-f l = AreMarkedBelow l.before l.now (graph_of l.game) l.f l.marks
