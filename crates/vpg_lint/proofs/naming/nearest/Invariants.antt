use Rattle.std.proofs.Common.{◌<◌, length}
use Rattle.std.specs.Prelude.{IfSome}
use Rattle.vpg_lint.proofs.naming.nearest.Given as goal

abbrev pub invariant-loop-f : goal.invariant-loop-f
invariant-loop-f l = IfSome l.found (λ f. f < length l.names)
