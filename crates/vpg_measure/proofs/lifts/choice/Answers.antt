use Rattle.std.proofs.Common.{arith}
use Rattle.std.proofs.lemmas.Grind.{common_steps}
use Rattle.vpg_measure.proofs.lifts.choice.Goals as goal

pub first_of-requires-clause-kept : goal.first_of-requires-clause-kept
first_of-requires-clause-kept c = grind (arith, common_steps)

pub returns-then-get-top-clause-closed : goal.returns-then-get-top-clause-closed
returns-then-get-top-clause-closed c = grind (arith, common_steps)

pub first_of-requires-clause-within : goal.first_of-requires-clause-within
first_of-requires-clause-within c = grind (arith, common_steps)

pub returns-else-get-top-clause-closed : goal.returns-else-get-top-clause-closed
returns-else-get-top-clause-closed c = grind (arith, common_steps)
