use Rattle.std.proofs.Common.{◌≡◌}
use Rattle.vpg_family.proofs.features.warn_of_unnamed.Given as goal

abbrev pub invariant-loop-f : goal.invariant-loop-f
invariant-loop-f l = l.warnings.length ≡ l.fn.warnings.length
