use Rattle.vpg_sides.specs.declared.which.Which.TheVariants.{Hopeful, Dual}
use Rattle.vpg_why.specs.Explained.{choices}
use Rattle.vpg_why.proofs.Starts.{opening}
use Rattle.vpg_why.proofs.under.order_over.Goals as goal

pub over-requires-clause-hopeful : goal.over-requires-clause-hopeful
over-requires-clause-hopeful c =
    rw (c.in_ok-game.ensures.game, c.in_ok-game.ensures.diagram, c.in_ok-own.ensures.items)
    (opening c.args.order.now.game c.args.order.now.diagram (choices c.args.decisions.now) c.args.games c.requires.games Hopeful c.in_ok-hopeful.hopeful c.in_ok-hopeful.ensures.table c.in_ok-hopeful.ensures.below)

pub over-requires-clause-dual : goal.over-requires-clause-dual
over-requires-clause-dual c =
    rw (c.in_ok-game.ensures.game, c.in_ok-game.ensures.diagram, c.in_ok-own.ensures.items)
    (opening c.args.order.now.game c.args.order.now.diagram (choices c.args.decisions.now) c.args.games c.requires.games Dual c.in_ok-dual.dual c.in_ok-dual.ensures.table c.in_ok-dual.ensures.below)
