use Rattle.std.proofs.Common.{arith}
use Rattle.std.proofs.lemmas.Grind.{common_steps}
use Rattle.vpg_features.proofs.index.Row.note.Goals as goal

pub returns-then-last-number : goal.returns-then-last-number
returns-then-last-number c = grind (arith, common_steps)
