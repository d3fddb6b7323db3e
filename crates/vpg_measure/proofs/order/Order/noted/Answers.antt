use Rattle.std.proofs.Common.{sym, subst}
use Rattle.vpg_measure.specs.Orders.{IsSettledOrder}
use Rattle.vpg_measure.proofs.order.Order.noted.Goals as goal

pub invariant_of-noted : goal.invariant_of-noted
invariant_of-noted c = record {
  order = c.noted.invariant.order;
  games = c.noted.invariant.games;
  noted = λ _. subst IsSettledOrder (sym c.noted.view_is) c.requires;
}
