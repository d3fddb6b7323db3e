use Rattle.std.proofs.Common.{refl}
use Rattle.vpg_game.specs.Game.{graph_of, vertex_ids, vertex_in}
use Rattle.vpg_texts.specs.Scene.{scene_of}
use Rattle.vpg_texts.proofs.Shown.{on_ok}
use Rattle.vpg_looks.specs.Edges.{TellsEdges, edges_text}
use Rattle.vpg_looks.proofs.Told.{told_done}
use Rattle.vpg_looks.proofs.edges.put_edges.Goals as goal

pub returns : goal.returns
returns c =
    let order = c.args.order.now in
    let labels = c.args.labels.now.names in
    told_done (TellsEdges (scene_of labels order.game order.diagram) c.args.vertex order.decisions) c.tell.result
    c.done.result c.done.ensures c.args.out.now.items c.tell.new.out.items
    (on_ok c.tell.result _ _
    (λ items. (
      edges_text (vertex_ids order.game.vertices) labels c.known.result.now c.args.vertex (vertex_in (graph_of order.game) c.args.vertex).edges,
      ((c.known.result.now, (c.known.ensures.table, refl)), items),
    )) c.tell.ensures)
