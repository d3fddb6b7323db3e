use Rattle.std.proofs.Common.{arith}
use Rattle.std.proofs.lemmas.Grind.{common_steps}
use Rattle.vpg_game.proofs.edges.copy_edges.Goals as goal

pub returns : goal.returns
returns c = grind (arith, common_steps)

pub loop-edge-preserved : goal.loop-edge-preserved
loop-edge-preserved c = grind (arith, common_steps)
