use Rattle.std.proofs.Common.{arith}
use Rattle.std.proofs.lemmas.Grind.{common_steps}
use Rattle.vpg_partial.proofs.rules.known_members.Goals as goal

pub returns : goal.returns
returns c = grind (arith, common_steps)

pub count-requires-clause-fits : goal.count-requires-clause-fits
count-requires-clause-fits c = grind (arith, common_steps)
