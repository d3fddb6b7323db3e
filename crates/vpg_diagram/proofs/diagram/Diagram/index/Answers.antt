use Rattle.vpg_diagram.proofs.diagram.Diagram.index.Goals as goal

pub returns : goal.returns
returns c = rw (← c.self.view_is, ← c.self.invariant.clauses_are, ← c.self.invariant.counts_are) c.self.invariant.indexed
