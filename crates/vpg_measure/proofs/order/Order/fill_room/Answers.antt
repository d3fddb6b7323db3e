use Rattle.std.proofs.Common.{◌∙◌, sym, arith}
use Rattle.std.proofs.lemmas.Grind.{common_steps}
use Rattle.vpg_sides.specs.declared.which.Which.TheVariants.{Hopeful, Dual}
use Rattle.vpg_measure.specs.OrderFields.{order_of}
use Rattle.vpg_measure.proofs.OrderLemmas.{table_count, room_filled, still_settled}
use Rattle.vpg_measure.proofs.order.Order.fill_room.Goals as goal

pub assign-requires : goal.assign-requires
assign-requires c = c.self.invariant.order.hopeful_room ∙ sym (table_count (order_of c.self.inside) c.self.invariant.order Hopeful)

pub assign-requires-2 : goal.assign-requires-2
assign-requires-2 c = c.self.invariant.order.dual_room ∙ sym (table_count (order_of c.self.inside) c.self.invariant.order Dual)

pub invariant_of-self : goal.invariant_of-self
invariant_of-self c =
    rw (c.assign.ensures, c.assign-2.ensures) (record {
      order = room_filled (order_of c.self.inside) c.self.invariant.order;
      games = c.self.invariant.games;
      noted = λ t. still_settled (order_of c.self.inside) c.self.inside.hopeful c.self.inside.dual (c.self.invariant.noted t);
    })

pub returns-clause-order : goal.returns-clause-order
returns-clause-order c = grind (arith, common_steps)

pub returns-clause-filled : goal.returns-clause-filled
returns-clause-filled c = grind (arith, common_steps)
