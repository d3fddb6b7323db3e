use Rattle.std.proofs.lemmas.Grind.{common_steps}
use Rattle.std.proofs.Common.{arith}
use Rattle.vpg_looks.proofs.winners.part_line.Goals as goal

pub returns : goal.returns
returns c = grind (arith, common_steps)

pub literals-requires : goal.literals-requires
literals-requires c = grind (arith, common_steps)
