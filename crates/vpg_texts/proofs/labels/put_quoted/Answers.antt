use Rattle.std.proofs.Common.{arith}
use Rattle.std.proofs.lemmas.Grind.{common_steps}
use Rattle.vpg_texts.proofs.labels.put_quoted.Goals as goal

pub returns : goal.returns
returns c = grind (arith, common_steps)
