use Rattle.std.proofs.Common.{◌≡◌}
use Rattle.vpg_family.proofs.system_warnings.warn_of_states.Given as goal

abbrev pub invariant-loop-state : goal.invariant-loop-state
invariant-loop-state l = l.warnings.length ≡ l.fn.warnings.length
