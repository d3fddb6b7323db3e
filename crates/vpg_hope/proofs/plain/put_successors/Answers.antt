use Rattle.std.proofs.Common.{arith}
use Rattle.std.proofs.lemmas.Grind.{common_steps}
use Rattle.vpg_hope.proofs.plain.put_successors.Goals as goal

pub loop-w-preserved : goal.loop-w-preserved
loop-w-preserved c = grind (arith, common_steps)

pub bounds-ids-w : goal.bounds-ids-w
bounds-ids-w c = grind (arith, common_steps)

pub returns : goal.returns
returns c = grind (arith, common_steps)

pub offset_bounds-ids-w : goal.offset_bounds-ids-w
offset_bounds-ids-w c = grind (arith, common_steps)
