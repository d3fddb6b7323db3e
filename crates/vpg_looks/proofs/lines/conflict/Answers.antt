use Rattle.std.proofs.lemmas.Grind.{common_steps}
use Rattle.std.proofs.Common.{arith}
use Rattle.vpg_looks.proofs.lines.conflict.Goals as goal

pub reason-requires : goal.reason-requires
reason-requires c = grind (arith, common_steps)

pub returns : goal.returns
returns c = grind (arith, common_steps)
