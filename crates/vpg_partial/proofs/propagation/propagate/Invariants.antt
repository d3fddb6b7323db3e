use Rattle.std.proofs.Common.{◌+◌, length}
use Rattle.vpg_partial.specs.Known.{IsClosed}
use Rattle.vpg_partial.specs.Propagation.{Grows, unknown_count}
use Rattle.vpg_partial.specs.Rules.{AreDone}
use Rattle.vpg_partial.proofs.propagation.propagate.Given as goal

-- each rule is done
abbrev pub invariant-loop-feature : goal.invariant-loop-feature
invariant-loop-feature l = record {
  grows : Grows (IsClosed l.clauses l.counts) l.fn.known l.known;
  done : AreDone l.clauses l.counts l.known l.waiting.items;
}

-- what is added waits, and what waits leaves
abbrev pub decreases-loop-feature : goal.decreases-loop-feature
decreases-loop-feature l = unknown_count l.known + length l.waiting.items
