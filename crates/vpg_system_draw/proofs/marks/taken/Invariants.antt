use Rattle.std.proofs.Common.{◌≡◌}
use Rattle.vpg_system_draw.specs.Traced.{taken_below}
use Rattle.vpg_system_draw.proofs.marks.taken.Given as goal

abbrev pub invariant-loop-n : goal.invariant-loop-n
invariant-loop-n l = l.marks.items ≡ taken_below l.system.transitions l.steps l.n
