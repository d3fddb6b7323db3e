use Rattle.vpg_diagram.specs.LineView.{lines_of}
use Rattle.vpg_diagram.proofs.BoundLemmas.{clauses_over_features}
use Rattle.vpg_diagram.proofs.diagram.Diagram.clauses.Goals as goal

pub returns-clause-below : goal.returns-clause-below
returns-clause-below c =
    rw (← c.self.view_is, c.deref.ensures.value, c.self.invariant.clauses_are) (clauses_over_features (lines_of c.self.inside.lines.items) c.self.invariant.named.diagram)
