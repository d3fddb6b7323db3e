use Rattle.vpg_measure.proofs.NumberGuards.{not_both_numbers}
use Rattle.vpg_measure.proofs.laws.tables.not_both_numbers.Goals as goal

pub returns : goal.returns
returns g c = λ value truth game full. not_both_numbers _ value truth game full
