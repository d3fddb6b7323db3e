use Rattle.std.proofs.Common.{◌≡◌}
use Rattle.vpg_family.proofs.moves.warn_of_unreached.Given as goal

abbrev pub invariant-loop-v : goal.invariant-loop-v
invariant-loop-v l = l.warnings.length ≡ l.fn.warnings.length
