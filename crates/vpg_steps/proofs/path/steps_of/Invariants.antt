use Rattle.std.proofs.Common.{◌≡◌}
use Rattle.vpg_steps.specs.Steps.{steps_of}
use Rattle.vpg_steps.proofs.path.steps_of.Given as goal

abbrev pub invariant-loop-n : goal.invariant-loop-n
invariant-loop-n l = l.steps.items ≡ steps_of l.known l.source.states.items l.source.sets.items l.source.parts.items l.pairs.keys l.visits l.n
