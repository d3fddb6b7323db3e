use Rattle.std.proofs.lemmas.Grind.{common_steps}
use Rattle.std.proofs.Common.{arith}
use Rattle.vpg_desk.proofs.decide.push_decision.Goals as goal

pub returns-clause-past : goal.returns-clause-past
returns-clause-past c = grind (arith, common_steps)

pub returns-clause-notes : goal.returns-clause-notes
returns-clause-notes c = grind (arith, common_steps)

pub returns-clause-below : goal.returns-clause-below
returns-clause-below c = grind (arith, common_steps)
