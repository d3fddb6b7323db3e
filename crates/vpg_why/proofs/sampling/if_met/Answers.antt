use Rattle.vpg_why.specs.Explained.{choices}
use Rattle.vpg_why.proofs.Monotone.{fewer_remains}
use Rattle.vpg_why.proofs.sampling.if_met.Goals as goal

pub returns-in-Met-clause-found : goal.returns-in-Met-clause-found
returns-in-Met-clause-found c =
    let met = rw (c.in-Met.is, c.deref.ensures.value) at c.in_ok-found.ensures.outlook in
    (fewer_remains c.args.order.now.diagram.lines (choices c.args.decisions.now) (choices c.in_ok-more.more.items) _ c.in_ok-more.ensures.among met.0.remaining, met.1)
