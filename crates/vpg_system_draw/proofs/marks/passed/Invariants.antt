use Rattle.std.proofs.Common.{◌≡◌}
use Rattle.vpg_system_draw.specs.Traced.{ends_below}
use Rattle.vpg_system_draw.proofs.marks.passed.Given as goal

abbrev pub invariant-loop-n : goal.invariant-loop-n
invariant-loop-n l = l.ends.items ≡ ends_below l.system.transitions l.marks l.n
