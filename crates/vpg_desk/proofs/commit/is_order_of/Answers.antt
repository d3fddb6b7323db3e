use Rattle.std.proofs.lemmas.Grind.{common_steps}
use Rattle.std.proofs.Common.{arith}
use Rattle.vpg_desk.proofs.commit.is_order_of.Goals as goal

pub returns-then-is_same : goal.returns-then-is_same
returns-then-is_same c = grind (arith, common_steps)

pub returns-else-is_same : goal.returns-else-is_same
returns-else-is_same c = grind (arith, common_steps)
