use Rattle.std.proofs.Common.{take, length, map}
use Rattle.vpg_partial.specs.Known.{literal_of}
use Rattle.vpg_partial.specs.KnownTable.{IsClosedTable}
use Rattle.vpg_partial.proofs.propagation.decide_all.Given as goal

-- the closed set of the decisions so far
abbrev pub invariant-loop-decision : goal.invariant-loop-decision
invariant-loop-decision l = IsClosedTable l.clauses l.counts (take l.decision-index (map literal_of l.decisions)) (length l.fn.known) l.known
