use Rattle.std.proofs.Common.{arith}
use Rattle.std.proofs.lemmas.Grind.{common_steps}
use Rattle.vpg_hope.proofs.selection.Selection.keeps.Goals as goal

pub value-requires : goal.value-requires
value-requires c = grind (arith, common_steps)

pub value-requires-in-Hopeful : goal.value-requires-in-Hopeful
value-requires-in-Hopeful c = grind (arith, common_steps)
