use Rattle.vpg_measure.specs.Lifts.{IsTableOf}
use Rattle.vpg_guess.proofs.certificates.table_of.Given as goal

abbrev pub invariant-loop-v : goal.invariant-loop-v
invariant-loop-v l = IsTableOf l.shape l.arena l.table
