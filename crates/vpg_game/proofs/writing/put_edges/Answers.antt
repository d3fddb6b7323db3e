use Rattle.std.proofs.Common.{arith, length}
use Rattle.std.proofs.lemmas.Grind.{common_steps}
use Rattle.vpg_game.proofs.Written.{edge_ok}
use Rattle.vpg_game.proofs.writing.put_edges.Goals as goal

pub put_edge-requires-clause-to : goal.put_edge-requires-clause-to
put_edge-requires-clause-to c = (edge_ok (length c.args.vertices.now) (length c.args.names.now) c.args.edges.now c.loop-edge.edge-index c.edge-item.result c.requires c.loop-edge-test.true c.edge-item.is).0

pub put_edge-requires-clause-guard : goal.put_edge-requires-clause-guard
put_edge-requires-clause-guard c = (edge_ok (length c.args.vertices.now) (length c.args.names.now) c.args.edges.now c.loop-edge.edge-index c.edge-item.result c.requires c.loop-edge-test.true c.edge-item.is).1.below

pub loop-edge-preserved : goal.loop-edge-preserved
loop-edge-preserved c = grind (arith, common_steps)
