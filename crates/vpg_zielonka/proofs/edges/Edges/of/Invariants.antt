use Rattle.vpg_game.specs.Game.{graph_of}
use Rattle.vpg_zielonka.specs.Universes.{IsGrown}
use Rattle.vpg_zielonka.specs.Edges.{AreFirstEdges}
use Rattle.vpg_zielonka.proofs.edges.Edges.of.Given as goal

abbrev pub invariant-loop-v : goal.invariant-loop-v
invariant-loop-v l =
    IsGrown l.fn.sets l.sets ×
    AreFirstEdges l.sets (graph_of l.game) l.v l.edges
