use Rattle.std.proofs.Common.{◌≡◌}
use Rattle.vpg_family.proofs.features.warn_of_attributes.Given as goal

abbrev pub invariant-loop-at : goal.invariant-loop-at
invariant-loop-at l = l.warnings.length ≡ l.fn.warnings.length
