use Rattle.vpg_measure.proofs.Choices.{choice_fits}
use Rattle.vpg_measure.proofs.laws.numbers.choices.Goals as goal

pub returns : goal.returns
returns c = choice_fits
