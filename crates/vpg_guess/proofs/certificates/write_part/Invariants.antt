use Rattle.vpg_measure.specs.Lifts.{IsTableOf}
use Rattle.vpg_guess.proofs.certificates.write_part.Given as goal

abbrev pub invariant-loop-v : goal.invariant-loop-v
invariant-loop-v l = IsTableOf l.shape l.arena l.table
