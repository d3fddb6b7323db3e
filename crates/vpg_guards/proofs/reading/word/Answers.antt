use Rattle.std.proofs.Common.{arith}
use Rattle.std.proofs.lemmas.Grind.{common_steps}
use Rattle.vpg_guards.proofs.reading.word.Goals as goal

pub bounds-word-0-in-None-get : goal.bounds-word-0-in-None-get
bounds-word-0-in-None-get c = grind (arith, common_steps)

pub bounds-word-0 : goal.bounds-word-0
bounds-word-0 c = grind (arith, common_steps)
