use Rattle.vpg_meaning.proofs.Spelled.{requirements_are_positive}
use Rattle.vpg_meaning.proofs.laws.requirements_are_positive.Goals as goal

pub returns : goal.returns
returns c = requirements_are_positive
