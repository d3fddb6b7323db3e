use Rattle.vpg_guess.specs.Kept.{IsRaisedFrom}
use Rattle.vpg_guess.proofs.raising.Raising.lift_each.Given as goal

abbrev pub invariant-loop-v : goal.invariant-loop-v
invariant-loop-v l = IsRaisedFrom l.fn.self l.self
