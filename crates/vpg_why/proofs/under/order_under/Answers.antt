use Rattle.std.proofs.Common.{refl}
use Rattle.vpg_partial.proofs.Tables.{conflicts_stay}
use Rattle.vpg_why.specs.Explained.{choices}
use Rattle.vpg_why.proofs.Listing.{among_named}
use Rattle.vpg_why.proofs.Monotone.{no_conflict}
use Rattle.vpg_why.proofs.under.order_under.Goals as goal

pub games_with-requires : goal.games_with-requires
games_with-requires c =
    let order = c.args.order.now in
    among_named order.diagram.lines (choices c.args.decisions.now) (choices order.decisions) c.requires c.game-order.ensures.order.named

pub order_over-requires-clause-named : goal.order_over-requires-clause-named
order_over-requires-clause-named c =
    let order = c.args.order.now in
    among_named order.diagram.lines (choices c.args.decisions.now) (choices order.decisions) c.requires c.game-order.ensures.order.named

pub unreachable-requires : goal.unreachable-requires
unreachable-requires c =
    let order = c.args.order.now in
    no_conflict order.diagram.lines (choices order.decisions) order.known c.game-order.ensures.order.known
    (conflicts_stay order.diagram.lines (choices c.args.decisions.now) (choices order.decisions) c.requires
    ((rw c.in-None.is at c.in_ok-games.ensures.conflict) refl))
