use Rattle.std.proofs.Common.{arith}
use Rattle.std.proofs.lemmas.Grind.{common_steps}
use Rattle.vpg_game.proofs.vertex.Vertex.put.Goals as goal

pub returns : goal.returns
returns c = grind (arith, common_steps)

pub put_edges-requires : goal.put_edges-requires
put_edges-requires c = grind (arith, common_steps)
