use Rattle.vpg_game.specs.Game.{graph_of}
use Rattle.vpg_zielonka.specs.Universes.{IsGrown}
use Rattle.vpg_zielonka.specs.Edges.{AreListed}
use Rattle.vpg_zielonka.proofs.Listing.{IsNamedUpTo}
use Rattle.vpg_zielonka.proofs.edges.Edges.add_all.Given as goal

abbrev pub invariant-loop-edge : goal.invariant-loop-edge
invariant-loop-edge l =
    IsGrown l.fn.sets l.sets × AreListed l.sets (graph_of l.game) (IsNamedUpTo (graph_of l.game) l.v l.edge-index)
    l.self.list.items l.self.leaving l.self.entering
