use Rattle.vpg_measure.proofs.Progs.{lift_grows}
use Rattle.vpg_measure.proofs.Rounds.{lift_stays_below}
use Rattle.vpg_measure.proofs.laws.numbers.growing_lifts.Goals as goal

pub returns-clause-grow : goal.returns-clause-grow
returns-clause-grow c = lift_grows

pub returns-clause-below : goal.returns-clause-below
returns-clause-below c = lift_stays_below
