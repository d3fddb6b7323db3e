use Rattle.vpg_measure.proofs.Verdicts.{hopeless_loses}
use Rattle.vpg_measure.proofs.laws.measures.hopeless_loses.Goals as goal

pub returns : goal.returns
returns g c = λ value. hopeless_loses _ value
