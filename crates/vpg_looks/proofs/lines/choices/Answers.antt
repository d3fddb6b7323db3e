use Rattle.std.proofs.lemmas.Grind.{common_steps}
use Rattle.std.proofs.Common.{arith}
use Rattle.vpg_looks.proofs.lines.choices.Goals as goal

pub loop-d-preserved : goal.loop-d-preserved
loop-d-preserved c = grind (arith, common_steps)

pub returns : goal.returns
returns c = grind (arith, common_steps)

pub choice-requires : goal.choice-requires
choice-requires c = grind (arith, common_steps)
