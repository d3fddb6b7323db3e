use Rattle.vpg_measure.proofs.Numbers.{prog_is_least_fit, prog_is_least_measure}
use Rattle.vpg_measure.proofs.laws.numbers.least_fit.Goals as goal

pub returns-clause-numbers : goal.returns-clause-numbers
returns-clause-numbers c = prog_is_least_fit

pub returns-clause-measures : goal.returns-clause-measures
returns-clause-measures c = prog_is_least_measure
