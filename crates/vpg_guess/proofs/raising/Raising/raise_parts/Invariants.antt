use Rattle.vpg_guess.specs.Kept.{IsRaisedFrom}
use Rattle.vpg_guess.proofs.raising.Raising.raise_parts.Given as goal

abbrev pub invariant-loop : goal.invariant-loop
invariant-loop l = IsRaisedFrom l.fn.self l.self
