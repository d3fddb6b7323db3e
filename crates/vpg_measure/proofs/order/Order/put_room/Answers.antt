use Rattle.std.proofs.Common.{length, ap, sym, ◌∙◌, arith}
use Rattle.std.proofs.lemmas.Grind.{common_steps}
use Rattle.vpg_sides.specs.declared.which.Which.TheVariants.{Hopeful, Dual}
use Rattle.vpg_measure.specs.OrderFields.{order_of}
use Rattle.vpg_measure.specs.Orders.{OrderView}
use Rattle.vpg_measure.proofs.OrderLemmas.{room_put, table_count, still_settled}
use Rattle.vpg_measure.proofs.order.Order.put_room.Goals as goal

pub invariant_of-self : goal.invariant_of-self
invariant_of-self c =
    let order = order_of c.self.inside in
    record {
      order = room_put order c.args.hopeful c.args.dual c.self.invariant.order
          (c.requires.hopeful ∙ sym (ap (λ (o : OrderView). length o.hopeful) c.self.view_is) ∙ table_count order c.self.invariant.order Hopeful)
          (c.requires.dual ∙ sym (ap (λ (o : OrderView). length o.dual) c.self.view_is) ∙ table_count order c.self.invariant.order Dual);
      games = c.self.invariant.games;
      noted = λ t. still_settled order c.args.hopeful c.args.dual (c.self.invariant.noted t);
    }

pub returns-clause-order : goal.returns-clause-order
returns-clause-order c = grind (arith, common_steps)

pub returns-clause-put : goal.returns-clause-put
returns-clause-put c = grind (arith, common_steps)
