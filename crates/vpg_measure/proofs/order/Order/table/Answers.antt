use Rattle.std.proofs.Common.{arith}
use Rattle.std.proofs.lemmas.Grind.{common_steps}
use Rattle.vpg_measure.proofs.order.Order.table.Goals as goal

pub returns-in-Dual-clause-order : goal.returns-in-Dual-clause-order
returns-in-Dual-clause-order c = grind (arith, common_steps)

pub returns-in-Hopeful-clause-order : goal.returns-in-Hopeful-clause-order
returns-in-Hopeful-clause-order c = grind (arith, common_steps)
