use Rattle.std.proofs.Common.{arith}
use Rattle.std.proofs.lemmas.Grind.{common_steps}
use Rattle.vpg_features.proofs.names.Names.name.Goals as goal

pub returns-in-None-clause-value : goal.returns-in-None-clause-value
returns-in-None-clause-value c = grind (arith, common_steps)

pub returns-in-None-clause-held : goal.returns-in-None-clause-held
returns-in-None-clause-held c = grind (arith, common_steps)
