use Rattle.std.proofs.Common.{arith}
use Rattle.std.proofs.lemmas.Grind.{common_steps}
use Rattle.vpg_diagram.proofs.building.clauses_of.Goals as goal

pub loop-line-preserved : goal.loop-line-preserved
loop-line-preserved c = grind (arith, common_steps)

pub returns : goal.returns
returns c = grind (arith, common_steps)

pub bounds-lines-line-index : goal.bounds-lines-line-index
bounds-lines-line-index c = grind (arith, common_steps)

pub loop-line-init : goal.loop-line-init
loop-line-init c = grind (arith, common_steps)

pub offset_bounds-lines-line-index : goal.offset_bounds-lines-line-index
offset_bounds-lines-line-index c = grind (arith, common_steps)
