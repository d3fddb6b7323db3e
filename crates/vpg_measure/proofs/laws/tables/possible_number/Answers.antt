use Rattle.vpg_measure.proofs.NumberGuards.{possible_number}
use Rattle.vpg_measure.proofs.laws.tables.possible_number.Goals as goal

pub returns : goal.returns
returns g c = λ value truth game full. possible_number _ value truth game full
