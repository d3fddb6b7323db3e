use Rattle.std.proofs.Common.{arith}
use Rattle.std.proofs.lemmas.Grind.{common_steps}
use Rattle.vpg_hope.proofs.projection.project.Goals as goal

pub returns-clause-product : goal.returns-clause-product
returns-clause-product c = grind (arith, common_steps)

pub returns-clause-refused : goal.returns-clause-refused
returns-clause-refused c = grind (arith, common_steps)

pub of-requires : goal.of-requires
of-requires c = grind (arith, common_steps)
