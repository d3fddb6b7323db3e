use Rattle.std.proofs.Common.{arith}
use Rattle.std.proofs.lemmas.Grind.{common_steps}
use Rattle.vpg_family.proofs.telling.put_game_fault.Goals as goal

pub returns-in_ok-push-in-Guard : goal.returns-in_ok-push-in-Guard
returns-in_ok-push-in-Guard c = grind (arith, common_steps)

pub returns-in-MissingVertex : goal.returns-in-MissingVertex
returns-in-MissingVertex c = grind (arith, common_steps)
