use Rattle.vpg_guess.specs.Kept.{IsRaisedFrom}
use Rattle.vpg_guess.proofs.raising.Raising.raise_by_values.Given as goal

abbrev pub invariant-loop-turn : goal.invariant-loop-turn
invariant-loop-turn l = IsRaisedFrom l.fn.self l.self
