use Rattle.std.proofs.lemmas.Grind.{common_steps}
use Rattle.std.proofs.Common.{arith}
use Rattle.vpg_desk.proofs.desk.Desk.game.Goals as goal

pub returns-clause-opened : goal.returns-clause-opened
returns-clause-opened c = grind (arith, common_steps)
