use Rattle.vpg_game.specs.Game.{graph_of}
use Rattle.vpg_zielonka.proofs.Draws.{IsLookedAt}
use Rattle.vpg_zielonka.proofs.attracting.draw.Given as goal

abbrev pub invariant-loop-number : goal.invariant-loop-number
invariant-loop-number l =
    IsLookedAt l.fn.sets (graph_of l.game) l.edges.list.items l.edges.leaving l.edges.entering l.player l.part
    l.fn.drawn.items l.w l.sets l.drawn.items l.waiting l.number-index
