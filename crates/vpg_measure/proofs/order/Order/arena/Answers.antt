use Rattle.std.proofs.Common.{◌∙◌, ap}
use Rattle.vpg_measure.specs.Orders.{OrderView, order_arena}
use Rattle.vpg_measure.proofs.OrderGames.{own_arena}
use Rattle.vpg_measure.proofs.order.Order.arena.Goals as goal

pub returns : goal.returns
returns c =
    own_arena c.self.inside c.self.invariant c.deref.result.now c.deref.ensures c.args.which c.arena.result.now c.arena.ensures
    ∙ ap (λ (order : OrderView). order_arena c.args.which order) c.self.view_is
