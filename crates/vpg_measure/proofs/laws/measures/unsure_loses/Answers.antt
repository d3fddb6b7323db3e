use Rattle.vpg_measure.proofs.Verdicts.{unsure_wins}
use Rattle.vpg_measure.proofs.laws.measures.unsure_loses.Goals as goal

pub returns : goal.returns
returns g c = λ value truth. unsure_wins _ value truth
