use Rattle.std.proofs.Common.{refl}
use Rattle.vpg_products.proofs.Growth.{step_adds, step_fails}
use Rattle.vpg_products.proofs.growing.visit.Goals as goal

pub returns-in_err-note-in-Adds-clause-grows : goal.returns-in_err-note-in-Adds-clause-grows
returns-in_err-note-in-Adds-clause-grows c =
    step_adds c.args.diagram.now.lines c.clauses.result.now c.counts.result.now c.args.known.now c.step_at.result c.features-features.ensures.diagram.diagram c.clauses.ensures.clauses c.counts.ensures.counts c.step_at.ensures
    _ c.in-Adds.literal c.tri_of.result c.in-Adds.is c.tri_of.ensures refl

pub returns-in-Fails-clause-fails : goal.returns-in-Fails-clause-fails
returns-in-Fails-clause-fails c = λ t.
    step_fails c.args.diagram.now.lines c.clauses.result.now c.counts.result.now c.args.known.now c.step_at.result c.features-features.ensures.diagram.diagram c.clauses.ensures.clauses c.counts.ensures.counts c.step_at.ensures
    c.in-Fails.is

pub returns-in_ok-note-in-Adds-clause-grows : goal.returns-in_ok-note-in-Adds-clause-grows
returns-in_ok-note-in-Adds-clause-grows c =
    step_adds c.args.diagram.now.lines c.clauses.result.now c.counts.result.now c.args.known.now c.step_at.result c.features-features.ensures.diagram.diagram c.clauses.ensures.clauses c.counts.ensures.counts c.step_at.ensures
    _ c.in-Adds.literal c.tri_of.result c.in-Adds.is c.tri_of.ensures refl
