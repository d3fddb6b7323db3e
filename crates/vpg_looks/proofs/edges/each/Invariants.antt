use Rattle.std.proofs.Common.{◌≡◌, ◌++◌, take}
use Rattle.std.specs.Prelude.{flat_map}
use Rattle.vpg_game.specs.Game.{vertex_ids}
use Rattle.vpg_looks.specs.Edges.{edge_line}
use Rattle.vpg_looks.proofs.edges.each.Given as goal

abbrev pub invariant-loop-edge : goal.invariant-loop-edge
invariant-loop-edge l =
    l.out.items ≡ l.fn.out.items ++ flat_map (edge_line (vertex_ids l.order.game.vertices) l.labels.names l.known l.vertex) (take l.edge-index l.edges)
