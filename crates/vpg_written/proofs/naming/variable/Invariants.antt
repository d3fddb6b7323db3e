use Rattle.std.proofs.Common.{◌≡◌, ◌+◌, ◌≤◌, length}
use Rattle.vpg_written.specs.Trees.{place_of}
use Rattle.vpg_written.specs.Naming.{around_of}
use Rattle.vpg_written.proofs.naming.variable.Given as goal

abbrev pub invariant-loop-rest : goal.invariant-loop-rest
invariant-loop-rest l = record {
  within : l.number + length l.rest ≤ length l.scope;
  finds : place_of (around_of l.scope) 0 l.name ≡ place_of (around_of l.rest) l.number l.name;
}

abbrev pub decreases-loop-rest : goal.decreases-loop-rest
decreases-loop-rest l = length l.rest
