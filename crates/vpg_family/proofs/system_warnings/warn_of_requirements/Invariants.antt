use Rattle.std.proofs.Common.{◌≡◌}
use Rattle.vpg_family.proofs.system_warnings.warn_of_requirements.Given as goal

abbrev pub invariant-loop-word : goal.invariant-loop-word
invariant-loop-word l = l.warnings.length ≡ l.fn.warnings.length
