use Rattle.std.proofs.Common.{◌≡◌}
use Rattle.vpg_family.proofs.moves.warn_of_stuck.Given as goal

abbrev pub invariant-loop-v : goal.invariant-loop-v
invariant-loop-v l = l.warnings.length ≡ l.fn.warnings.length
