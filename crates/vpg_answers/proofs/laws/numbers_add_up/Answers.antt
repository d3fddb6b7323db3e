use Rattle.vpg_answers.proofs.Adding.{numbers_add_up}
use Rattle.vpg_answers.proofs.laws.numbers_add_up.Goals as goal

pub returns : goal.returns
returns c = numbers_add_up
