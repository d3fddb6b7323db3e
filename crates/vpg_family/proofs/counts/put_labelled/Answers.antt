use Rattle.std.proofs.Common.{arith}
use Rattle.std.proofs.lemmas.Grind.{common_steps}
use Rattle.vpg_family.proofs.counts.put_labelled.Goals as goal

pub returns : goal.returns
returns c = grind (arith, common_steps)
