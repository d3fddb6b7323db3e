use Rattle.std.proofs.Common.{[]}
use Rattle.vpg_why.proofs.Among.{none_among}
use Rattle.vpg_why.proofs.telling.because.Goals as goal

pub explain_by-requires-clause-named : goal.explain_by-requires-clause-named
explain_by-requires-clause-named c = rw (c.in_ok-base.ensures.diagram, c.decisions.ensures.decisions) c.decisions.ensures.order.named

pub explain_by-requires-clause-askable : goal.explain_by-requires-clause-askable
explain_by-requires-clause-askable c = rw c.in_ok-base.ensures.game c.requires.aim

pub explain_by-requires-clause-hint : goal.explain_by-requires-clause-hint
explain_by-requires-clause-hint c = rw (c.in_ok-base.ensures.game, c.in_ok-base.ensures.diagram, c.deref.ensures.value) c.in_ok-hint.ensures.suffices

pub explain_by-requires-clause-enough : goal.explain_by-requires-clause-enough
explain_by-requires-clause-enough c = rw (c.in_ok-base.ensures.game, c.in_ok-base.ensures.diagram, c.decisions.ensures.decisions) c.requires.lost

pub returns-clause-explains : goal.returns-clause-explains
returns-clause-explains c = rw (c.in_ok-base.ensures.game, c.in_ok-base.ensures.diagram, c.decisions.ensures.decisions) at c.in_ok-found.ensures.explains

pub returns-clause-settled : goal.returns-clause-settled
returns-clause-settled c each =
    (rw (c.in_ok-base.ensures.game, c.in_ok-base.ensures.diagram, c.decisions.ensures.decisions) at c.in_ok-found.ensures.settled)
    (c.in_ok-is_small.ensures (each [] (none_among _)).1) each
