use Rattle.std.proofs.lemmas.Grind.{common_steps}
use Rattle.std.proofs.Common.{arith}
use Rattle.vpg_looks.proofs.needs.each.Goals as goal

pub loop-l-preserved : goal.loop-l-preserved
loop-l-preserved c = grind (arith, common_steps)

pub returns : goal.returns
returns c = grind (arith, common_steps)

pub choice_line-requires : goal.choice_line-requires
choice_line-requires c = grind (arith, common_steps)
