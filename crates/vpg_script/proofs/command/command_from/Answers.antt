use Rattle.std.proofs.Common.{arith}
use Rattle.std.proofs.lemmas.Grind.{common_steps}
use Rattle.vpg_script.proofs.command.command_from.Goals as goal

pub returns-in_default-verb : goal.returns-in_default-verb
returns-in_default-verb c = grind (arith, common_steps)
