use Rattle.vpg_measure.proofs.Verdicts.{not_possible_and_unsure}
use Rattle.vpg_measure.proofs.laws.measures.not_possible_and_unsure.Goals as goal

pub returns : goal.returns
returns g c = λ value truth. not_possible_and_unsure _ value truth
