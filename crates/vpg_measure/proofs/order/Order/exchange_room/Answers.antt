use Rattle.std.proofs.Common.{sym, subst}
use Rattle.std.proofs.lemmas.Bool.{false≢true}
use Rattle.vpg_guards.specs.Known.{kleene}
use Rattle.vpg_game.specs.Game.{graph_of}
use Rattle.vpg_sides.specs.declared.which.Which.{Which}
use Rattle.vpg_measure.specs.OrderFields.{order_of}
use Rattle.vpg_measure.specs.Orders.{OrderView, order_room}
use Rattle.vpg_measure.specs.TwoGames.{IsTableBelow}
use Rattle.vpg_measure.proofs.OrderLemmas.{room_exchanged}
use Rattle.vpg_measure.proofs.order.Order.exchange_room.Goals as goal

pub invariant_of-self : goal.invariant_of-self
invariant_of-self c =
    rw (c.swap.ensures.x_after, c.swap.ensures.y_after, c.swap-2.ensures.x_after, c.swap-2.ensures.y_after) (record {
      order = room_exchanged (order_of c.self.inside) c.self.invariant.order
          (subst (λ (o : OrderView). (which : Which) → IsTableBelow (kleene o.known) which (graph_of o.game) (order_room which o)) (sym c.self.view_is) c.requires);
      games = c.self.invariant.games;
      noted = λ t. absurd (false≢true t);
    })
