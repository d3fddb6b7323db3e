use Rattle.std.proofs.lemmas.Grind.{common_steps}
use Rattle.std.proofs.Common.{arith}
use Rattle.vpg_looks.proofs.uses.lines.Goals as goal

pub loop-used-preserved : goal.loop-used-preserved
loop-used-preserved c = grind (arith, common_steps)

pub returns : goal.returns
returns c = grind (arith, common_steps)
