use Rattle.vpg_measure.proofs.Verdicts.{sure_wins}
use Rattle.vpg_measure.proofs.laws.measures.sure_wins.Goals as goal

pub returns : goal.returns
returns g c = λ value. sure_wins _ value
