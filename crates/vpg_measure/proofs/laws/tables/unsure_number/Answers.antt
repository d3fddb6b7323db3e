use Rattle.vpg_measure.proofs.NumberGuards.{unsure_number}
use Rattle.vpg_measure.proofs.laws.tables.unsure_number.Goals as goal

pub returns : goal.returns
returns g c = λ value truth game full. unsure_number _ value truth game full
