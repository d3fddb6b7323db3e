use Rattle.std.proofs.Common.{◌≡◌, ◌++◌, drop, flat_map}
use Rattle.vpg_diagram.specs.Clauses.{line_clauses, clauses_of}
use Rattle.vpg_diagram.specs.LineView.{lines_of}
use Rattle.vpg_diagram.proofs.building.clauses_of.Given as goal

abbrev pub invariant-loop-line : goal.invariant-loop-line
invariant-loop-line l = l.clauses.items ++ flat_map line_clauses (lines_of (drop l.line-index l.lines)) ≡ clauses_of (lines_of l.lines)
