use Rattle.std.proofs.Common.{◌≡◌}
use Rattle.vpg_steps.specs.Steps.{stands_of}
use Rattle.vpg_steps.proofs.path.stands_of.Given as goal

abbrev pub invariant-loop-n : goal.invariant-loop-n
invariant-loop-n l = l.stands.items ≡ stands_of l.source.parts.items l.pairs.keys l.visits l.n
