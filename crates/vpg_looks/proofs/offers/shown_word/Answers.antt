use Rattle.std.proofs.lemmas.Grind.{common_steps}
use Rattle.std.proofs.Common.{arith}
use Rattle.vpg_looks.proofs.offers.shown_word.Goals as goal

pub returns-in_default-shown : goal.returns-in_default-shown
returns-in_default-shown c = grind (arith, common_steps)

pub returns-in-Yes : goal.returns-in-Yes
returns-in-Yes c = grind (arith, common_steps)
