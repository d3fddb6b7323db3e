use Rattle.vpg_measure.proofs.NumberGuards.{sure_number}
use Rattle.vpg_measure.proofs.laws.tables.sure_number.Goals as goal

pub returns : goal.returns
returns g c = λ value game. sure_number _ value game
