use Rattle.vpg_game.specs.Game.{graph_of}
use Rattle.vpg_zielonka.proofs.Reachability.{IsFound}
use Rattle.vpg_zielonka.proofs.reaching.add_next.Given as goal

abbrev pub invariant-loop-edge : goal.invariant-loop-edge
invariant-loop-edge l =
    IsFound (graph_of l.game) l.v l.fn.found.items l.found.items l.waiting l.edge-index
