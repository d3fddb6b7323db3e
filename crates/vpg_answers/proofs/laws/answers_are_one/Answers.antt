use Rattle.vpg_answers.proofs.One.{answers_are_one}
use Rattle.vpg_answers.proofs.laws.answers_are_one.Goals as goal

pub returns : goal.returns
returns c = answers_are_one
