use Rattle.std.proofs.Common.{arith}
use Rattle.std.proofs.lemmas.Grind.{common_steps}
use Rattle.vpg_game.proofs.writing.put_edge.Goals as goal

pub write-requires : goal.write-requires
write-requires c = grind (arith, common_steps)
