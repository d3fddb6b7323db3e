use Rattle.vpg_why.specs.Explained.{choices}
use Rattle.vpg_winners.proofs.MetSets.{some_won, some_lost}
use Rattle.vpg_winners.proofs.finding.sets_at.Goals as goal

pub returns-clause-won : goal.returns-clause-won
returns-clause-won c =
    let order = c.args.order.now in
    some_won order.game order.diagram c.args.vertex (choices order.decisions) c.in_ok-found.found
    c.in_ok-found.ensures.features c.in_ok-found.ensures.stand

pub returns-clause-lost : goal.returns-clause-lost
returns-clause-lost c =
    let order = c.args.order.now in
    some_lost order.game order.diagram c.args.vertex (choices order.decisions) c.in_ok-found.found
    c.in_ok-found.ensures.features c.in_ok-found.ensures.stand
