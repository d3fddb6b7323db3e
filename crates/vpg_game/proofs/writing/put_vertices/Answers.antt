use Rattle.std.proofs.Common.{arith, length}
use Rattle.std.proofs.lemmas.Grind.{common_steps}
use Rattle.vpg_game.proofs.Written.{edges_ok}
use Rattle.vpg_game.proofs.writing.put_vertices.Goals as goal

pub put-requires : goal.put-requires
put-requires c = edges_ok (length c.args.vertices.now) (length c.args.names.now) c.args.vertices.now c.loop-vertex.vertex-index c.vertex-item.result c.requires c.loop-vertex-test.true c.vertex-item.is

pub loop-vertex-preserved : goal.loop-vertex-preserved
loop-vertex-preserved c = grind (arith, common_steps)
