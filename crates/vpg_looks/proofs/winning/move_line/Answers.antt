use Rattle.std.proofs.lemmas.Grind.{common_steps}
use Rattle.std.proofs.Common.{arith}
use Rattle.vpg_looks.proofs.winning.move_line.Goals as goal

pub identifier-requires-in-Some : goal.identifier-requires-in-Some
identifier-requires-in-Some c = grind (arith, common_steps)
