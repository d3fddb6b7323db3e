use Rattle.vpg_measure.proofs.NumberGuards.{settled_in_earlier}
use Rattle.vpg_measure.proofs.laws.tables.settled_in_earlier.Goals as goal

pub returns : goal.returns
returns g c = λ earlier later game. settled_in_earlier _ earlier later game
