use Rattle.std.proofs.Common.{◌≡◌, map, take}
use Rattle.vpg_game.specs.Game.{vertex_ids}
use Rattle.vpg_open.specs.SettledGames.{settled_vertices, spelled_vertex}
use Rattle.vpg_open.specs.ReachedGames.{marked}
use Rattle.vpg_open.proofs.reaching.entries.Given as goal

abbrev pub invariant-loop-v : goal.invariant-loop-v
invariant-loop-v l =
    l.entries.items
    ≡ map (spelled_vertex (vertex_ids (settled_vertices l.game.vertices l.winners)))
    (marked (settled_vertices l.game.vertices l.winners) (take l.v l.marks))
