use Rattle.std.proofs.Common.{◌≡◌}
use Rattle.vpg_family.proofs.system_warnings.warn_of_guards.Given as goal

abbrev pub invariant-loop-index : goal.invariant-loop-index
invariant-loop-index l = l.warnings.length ≡ l.fn.warnings.length
