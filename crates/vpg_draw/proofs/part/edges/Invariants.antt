use Rattle.std.proofs.Common.{◌≡◌, ◌++◌, take, get_or}
use Rattle.std.specs.Prelude.{flat_map}
use Rattle.vpg_game.specs.Game.{no_vertex}
use Rattle.vpg_draw.specs.PartDrawing.{part_edge_text}
use Rattle.vpg_draw.proofs.part.edges.Given as goal

abbrev pub invariant-loop-e : goal.invariant-loop-e
invariant-loop-e l =
    l.out.items ≡ l.fn.out.items ++ flat_map (part_edge_text l.features l.known l.game.vertices (get_or l.game.vertices l.v no_vertex) l.mover l.listed) (take l.e-index l.edges)
