use Rattle.std.proofs.Common.{◌≡◌}
use Rattle.vpg_family.proofs.system_warnings.warn_of_actions.Given as goal

abbrev pub invariant-loop-action : goal.invariant-loop-action
invariant-loop-action l = l.warnings.length ≡ l.fn.warnings.length
