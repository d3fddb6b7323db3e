use Rattle.std.proofs.Common.{length}
use Rattle.vpg_draw.proofs.Edges.{edge_in}
use Rattle.vpg_draw.proofs.Growing.{grown_item, grown_all}
use Rattle.std.proofs.Common.{get_or}
use Rattle.vpg_game.specs.Game.{no_vertex}
use Rattle.vpg_draw.specs.PartDrawing.{part_edge_text}
use Rattle.vpg_draw.proofs.part.edges.Goals as goal

pub edge-requires-clause-to : goal.edge-requires-clause-to
edge-requires-clause-to c =
    (edge_in c.args.game.now (length c.args.features.now) c.args.v c.edges-edges.result.now c.loop-e.e-index c.e-item.result c.vertices-count.ensures.game c.requires.features c.requires.v c.edges-edges.ensures.value c.loop-e-test.true c.e-item.is).0

pub edge-requires-clause-guard : goal.edge-requires-clause-guard
edge-requires-clause-guard c =
    (edge_in c.args.game.now (length c.args.features.now) c.args.v c.edges-edges.result.now c.loop-e.e-index c.e-item.result c.vertices-count.ensures.game c.requires.features c.requires.v c.edges-edges.ensures.value c.loop-e-test.true c.e-item.is).1

pub loop-e-preserved : goal.loop-e-preserved
loop-e-preserved c =
    grown_item (part_edge_text c.args.features.now c.args.known.now c.args.game.now.vertices (get_or c.args.game.now.vertices c.args.v no_vertex) c.args.mover c.args.listed) c.edges-edges.result.now c.loop-e.e-index c.e-item.result c.args.out.now.items c.loop-e.out.items c.edge.new.out.items c.loop-e-test.true c.e-item.is c.loop-e.invariant c.in_ok-edge.ensures

pub returns : goal.returns
returns c =
    rw c.edges-edges.ensures.value at
    (grown_all (part_edge_text c.args.features.now c.args.known.now c.args.game.now.vertices (get_or c.args.game.now.vertices c.args.v no_vertex) c.args.mover c.args.listed) c.edges-edges.result.now c.loop-e.e-index c.args.out.now.items c.loop-e.out.items c.loop-e-test.false c.loop-e.invariant)
