use Rattle.std.proofs.Common.{refl}
use Rattle.vpg_why.specs.Explained.{choices}
use Rattle.vpg_why.proofs.Listing.{among_named}
use Rattle.vpg_why.proofs.Losing.{sufficient_choices_lose}
use Rattle.vpg_why.proofs.Ordered.{made}
use Rattle.vpg_why.proofs.telling.why_over.Goals as goal

pub explain_by-requires-clause-enough : goal.explain_by-requires-clause-enough
explain_by-requires-clause-enough c =
    rw (c.requires.game, c.requires.diagram, c.decisions.ensures.decisions)
    (made c.args.order.now c.decisions.ensures.order c.args.which c.args.vertex c.requires.vertex c.requires.told)

pub explain_by-requires-clause-named : goal.explain_by-requires-clause-named
explain_by-requires-clause-named c = rw (c.requires.diagram, c.decisions.ensures.decisions) c.decisions.ensures.order.named

pub explain_by-requires-clause-askable : goal.explain_by-requires-clause-askable
explain_by-requires-clause-askable c = rw c.requires.game c.requires.vertex

pub returns-clause-explains : goal.returns-clause-explains
returns-clause-explains c = rw (c.requires.game, c.requires.diagram, c.decisions.ensures.decisions) at c.in_ok-found.ensures.explains

pub returns-clause-lost : goal.returns-clause-lost
returns-clause-lost c =
    let order = c.args.order.now in
    let is = c.decisions.ensures.order in
    let explains = rw (c.requires.game, c.requires.diagram, c.decisions.ensures.decisions) at c.in_ok-found.ensures.explains in
    sufficient_choices_lose order.game order.diagram c.args.which c.args.vertex (choices c.in_ok-found.found.decisions.items) is.game is.diagram
    (among_named order.diagram.lines (choices c.in_ok-found.found.decisions.items) (choices order.decisions) explains.among is.named) c.requires.vertex explains.enough

pub returns-clause-settled : goal.returns-clause-settled
returns-clause-settled c = (rw (c.requires.game, c.requires.diagram, c.decisions.ensures.decisions) at c.in_ok-found.ensures.settled) refl
