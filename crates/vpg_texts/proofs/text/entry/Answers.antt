use Rattle.std.proofs.Common.{arith}
use Rattle.std.proofs.lemmas.Grind.{common_steps}
use Rattle.vpg_texts.proofs.text.entry.Goals as goal

pub returns-in_ok-push-in-Lift : goal.returns-in_ok-push-in-Lift
returns-in_ok-push-in-Lift c = grind (arith, common_steps)
