use Rattle.std.proofs.Common.{◌≡◌, ◌+◌, map, take}
use Rattle.vpg_measure.proofs.shape.priorities.Given as goal

abbrev pub invariant-loop-v : goal.invariant-loop-v
invariant-loop-v l = l.priorities.items ≡ map (λ v. v.priority + l.raise) (take l.v l.game.vertices)
