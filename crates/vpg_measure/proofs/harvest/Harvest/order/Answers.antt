use Rattle.std.proofs.Common.{arith}
use Rattle.std.proofs.lemmas.Grind.{common_steps}
use Rattle.vpg_measure.proofs.harvest.Harvest.order.Goals as goal

pub returns-clause-harvest : goal.returns-clause-harvest
returns-clause-harvest c = grind (arith, common_steps)
