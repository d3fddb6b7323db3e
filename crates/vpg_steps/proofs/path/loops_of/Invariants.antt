use Rattle.std.proofs.Common.{◌≡◌}
use Rattle.vpg_steps.specs.Steps.{loops_of}
use Rattle.vpg_steps.proofs.path.loops_of.Given as goal

abbrev pub invariant-loop-n : goal.invariant-loop-n
invariant-loop-n l = l.loops.items ≡ loops_of l.pairs.keys l.visits l.n
