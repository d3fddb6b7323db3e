use Rattle.vpg_guess.specs.Kept.{IsRaisedFrom}
use Rattle.vpg_guess.proofs.raising.Raising.raise_to_values.Given as goal

abbrev pub invariant-loop-weight : goal.invariant-loop-weight
invariant-loop-weight l = IsRaisedFrom l.fn.self l.self
