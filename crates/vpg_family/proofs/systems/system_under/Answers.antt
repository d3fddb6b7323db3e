use Rattle.vpg_family.proofs.Choices.{below_choices}
use Rattle.vpg_family.proofs.systems.system_under.Goals as goal

pub system_shown-requires-clause-decisions : goal.system_shown-requires-clause-decisions
system_shown-requires-clause-decisions c =
    rw (c.deref-2.ensures, c.diagram.ensures.diagram, c.decisions-decisions.ensures.decisions)
    (below_choices c.args.order.now.diagram.lines c.args.order.now.decisions c.diagram.ensures.order.named)
