use Rattle.std.proofs.Common.{arith}
use Rattle.std.proofs.lemmas.Grind.{common_steps}
use Rattle.vpg_measure.proofs.order.two_rooms.Goals as goal

pub returns-clause-hopeful : goal.returns-clause-hopeful
returns-clause-hopeful c = grind (arith, common_steps)

pub returns-clause-dual : goal.returns-clause-dual
returns-clause-dual c = grind (arith, common_steps)
