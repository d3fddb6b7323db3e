use Rattle.std.proofs.lemmas.Grind.{common_steps}
use Rattle.std.proofs.Common.{arith}
use Rattle.vpg_looks.proofs.offers.words.Goals as goal

pub returns-in_ok-shown_word-in-Left-2 : goal.returns-in_ok-shown_word-in-Left-2
returns-in_ok-shown_word-in-Left-2 c = grind (arith, common_steps)
