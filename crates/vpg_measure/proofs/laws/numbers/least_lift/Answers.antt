use Rattle.vpg_measure.proofs.Progs.{lift_is_least}
use Rattle.vpg_measure.proofs.laws.numbers.least_lift.Goals as goal

pub returns : goal.returns
returns c = lift_is_least
