use Rattle.vpg_measure.proofs.Numbers.{measures_have_numbers, numbers_are_measures}
use Rattle.vpg_measure.proofs.laws.numbers.correspondence.Goals as goal

pub returns-clause-measures : goal.returns-clause-measures
returns-clause-measures c = measures_have_numbers

pub returns-clause-numbers : goal.returns-clause-numbers
returns-clause-numbers c = numbers_are_measures
