use Rattle.std.proofs.Common.{arith}
use Rattle.std.proofs.lemmas.Grind.{common_steps}
use Rattle.vpg_measure.proofs.harvest.Harvest.table.Goals as goal

pub returns-clause-table : goal.returns-clause-table
returns-clause-table c = grind (arith, common_steps)

pub returns-clause-harvest : goal.returns-clause-harvest
returns-clause-harvest c = grind (arith, common_steps)
