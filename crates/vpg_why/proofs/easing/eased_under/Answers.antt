use Rattle.vpg_why.specs.Explained.{choices}
use Rattle.vpg_why.proofs.Eased.{met_under}
use Rattle.vpg_why.proofs.easing.eased_under.Goals as goal

pub is_top_within-requires-clause-games : goal.is_top_within-requires-clause-games
is_top_within-requires-clause-games c = (choices c.args.decisions.now, c.requires.games)

pub returns-in-Yes-clause-eased : goal.returns-in-Yes-clause-eased
returns-in-Yes-clause-eased c = met_under c.args.order.now.game c.args.order.now.diagram (choices c.args.decisions.now) c.args.vertex c.game-order.ensures.order.game c.game-order.ensures.order.diagram c.requires.named c.requires.vertex
    c.args.which c.args.games.now.known c.requires.games.known (rw c.opposite.ensures at (c.in_ok-shown.ensures.yes c.in-Yes.is))
