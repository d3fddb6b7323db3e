use Rattle.std.proofs.Common.{arith}
use Rattle.std.proofs.lemmas.Grind.{common_steps}
use Rattle.vpg_partial.proofs.propagation.add.Goals as goal

pub returns-clause-ok : goal.returns-clause-ok
returns-clause-ok c = grind (arith, common_steps)

pub bounds-known-literal : goal.bounds-known-literal
bounds-known-literal c = grind (arith, common_steps)
