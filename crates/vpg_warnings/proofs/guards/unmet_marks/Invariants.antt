use Rattle.vpg_warnings.specs.Guards.{AreJudged}
use Rattle.vpg_warnings.proofs.guards.unmet_marks.Given as goal

-- the marks of the transitions so far
abbrev pub invariant-loop-at : goal.invariant-loop-at
invariant-loop-at l = AreJudged l.diagram.lines l.system.transitions l.at l.marks.items
