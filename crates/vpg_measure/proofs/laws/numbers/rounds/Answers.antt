use Rattle.vpg_measure.proofs.Rounds.{rounds_rise, rounds_stay_below, rounds_stop}
use Rattle.vpg_measure.proofs.Monotone.{rounds_grow}
use Rattle.vpg_measure.proofs.laws.numbers.rounds.Goals as goal

pub returns-clause-rise : goal.returns-clause-rise
returns-clause-rise c = rounds_rise

pub returns-clause-grow : goal.returns-clause-grow
returns-clause-grow c = rounds_grow

pub returns-clause-below : goal.returns-clause-below
returns-clause-below c = rounds_stay_below

pub returns-clause-stop : goal.returns-clause-stop
returns-clause-stop c = rounds_stop
