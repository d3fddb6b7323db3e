use Rattle.std.proofs.Common.{◌≤◌}
use Rattle.vpg_game.specs.Game.{graph_of}
use Rattle.vpg_zielonka.proofs.Looping.{IsSolvedSoFar}
use Rattle.vpg_zielonka.proofs.solving.+solve_part.Given as goal

abbrev pub invariant-loop-priority : goal.invariant-loop-priority
invariant-loop-priority l =
    IsSolvedSoFar l.fn.sets (graph_of l.game) l.fn.part.items l.bound l.sets l.part.items l.winners ×
    (l.steps ≤ l.fn.steps)

abbrev pub decreases-solve_part : goal.decreases-solve_part
decreases-solve_part l = l.bound

abbrev pub decreases-loop-priority : goal.decreases-loop-priority
decreases-loop-priority l = l.steps
