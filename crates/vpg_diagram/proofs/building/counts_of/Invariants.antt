use Rattle.std.proofs.Common.{◌≡◌, ◌++◌, drop}
use Rattle.vpg_diagram.specs.Clauses.{counts_of}
use Rattle.vpg_diagram.specs.LineView.{lines_of}
use Rattle.vpg_diagram.proofs.building.counts_of.Given as goal

abbrev pub invariant-loop-line : goal.invariant-loop-line
invariant-loop-line l = l.counts.items ++ counts_of (lines_of (drop l.line-index l.lines)) ≡ counts_of (lines_of l.lines)
