use Rattle.std.proofs.Common.{◌≡◌, map, take}
use Rattle.vpg_game.specs.Game.{vertex_ids}
use Rattle.vpg_open.specs.SettledGames.{spelled_edge}
use Rattle.vpg_open.proofs.cutting.successors.Given as goal

abbrev pub invariant-loop-edge : goal.invariant-loop-edge
invariant-loop-edge l =
    l.successors.items ≡ map (spelled_edge (vertex_ids l.game.vertices)) (take l.edge-index l.edges)
