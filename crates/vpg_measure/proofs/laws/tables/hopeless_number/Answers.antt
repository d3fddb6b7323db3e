use Rattle.vpg_measure.proofs.NumberGuards.{hopeless_number}
use Rattle.vpg_measure.proofs.laws.tables.hopeless_number.Goals as goal

pub returns : goal.returns
returns g c = λ value game. hopeless_number _ value game
