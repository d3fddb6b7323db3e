use Rattle.vpg_measure.proofs.Verdicts.{possible_wins}
use Rattle.vpg_measure.proofs.laws.measures.possible_wins.Goals as goal

pub returns : goal.returns
returns g c = λ value truth. possible_wins _ value truth
