use Rattle.std.proofs.lemmas.Grind.{common_steps}
use Rattle.std.proofs.Common.{arith}
use Rattle.vpg_looks.proofs.winning.each.Goals as goal

pub loop-v-preserved : goal.loop-v-preserved
loop-v-preserved c = grind (arith, common_steps)

pub returns : goal.returns
returns c = grind (arith, common_steps)

pub move_line-requires-clause-to : goal.move_line-requires-clause-to
move_line-requires-clause-to c = grind (arith, common_steps)

pub move_line-requires-clause-v : goal.move_line-requires-clause-v
move_line-requires-clause-v c = grind (arith, common_steps)

pub bounds-moves-v : goal.bounds-moves-v
bounds-moves-v c = grind (arith, common_steps)
