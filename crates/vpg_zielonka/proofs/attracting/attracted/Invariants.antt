use Rattle.std.proofs.Common.{◌≤◌}
use Rattle.vpg_game.specs.Game.{graph_of}
use Rattle.vpg_zielonka.proofs.Spreading.{IsSpread}
use Rattle.vpg_zielonka.proofs.attracting.attracted.Given as goal

abbrev pub invariant-loop-w : goal.invariant-loop-w
invariant-loop-w l =
    IsSpread l.fn.sets (graph_of l.game) l.player l.part l.seeds l.sets l.drawn.items l.waiting × (l.steps ≤ l.fn.steps)

abbrev pub decreases-loop-w : goal.decreases-loop-w
decreases-loop-w l = l.steps
