use Rattle.std.proofs.Common.{arith}
use Rattle.std.proofs.lemmas.Grind.{common_steps}
use Rattle.vpg_game.proofs.DualGames.{priority_below}
use Rattle.vpg_game.proofs.dual.dual_vertices.Goals as goal

pub dual-requires : goal.dual-requires
dual-requires c = priority_below c.args.vertices.now c.loop-vertex.vertex-index c.vertex-item.result c.requires c.loop-vertex-test.true c.vertex-item.is

pub loop-vertex-preserved : goal.loop-vertex-preserved
loop-vertex-preserved c = grind (arith, common_steps)

pub returns : goal.returns
returns c = grind (arith, common_steps)
