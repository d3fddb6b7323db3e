use Rattle.vpg_why.specs.Explained.{choices}
use Rattle.vpg_why.proofs.Reasons.{nothing_is_lost}
use Rattle.vpg_why.proofs.searching.search.Goals as goal

pub returns-in-Nothing-clause-found : goal.returns-in-Nothing-clause-found
returns-in-Nothing-clause-found c =
    nothing_is_lost c.args.order.now.game c.args.order.now.diagram c.args.aim (choices c.args.decisions.now) c.in-Nothing.field-0.items
    (rw c.in-Nothing.is at c.in_ok-example.ensures.found)
