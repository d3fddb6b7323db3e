use Rattle.std.proofs.Common.{arith}
use Rattle.std.proofs.lemmas.Grind.{common_steps}
use Rattle.vpg_measure.proofs.order.Order.game.Goals as goal

pub returns-clause-order : goal.returns-clause-order
returns-clause-order c = grind (arith, common_steps)
