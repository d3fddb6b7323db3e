use Rattle.std.proofs.Common.{◌≡◌, ap, sym, subst, ◌∙◌, arith}
use Rattle.std.proofs.lemmas.Grind.{common_steps}
use Rattle.std.proofs.lemmas.Bool.{false≢true}
use Rattle.vpg_sides.specs.declared.which.Which.TheVariants.{Hopeful, Dual}
use Rattle.vpg_measure.specs.Lifts.{IsTableOf, after_rounds}
use Rattle.vpg_measure.specs.Orders.{OrderView, harvest_of, harvest_table, order_levels, order_arena, order_room, with_room, IsHarvest}
use Rattle.vpg_measure.proofs.OrderLemmas.{alone_of, hopeful_settled, harvest_made, settled_lawful, alone_at}
use Rattle.vpg_measure.proofs.harvest.Harvest.alone.Goals as goal

pub settle_room-requires : goal.settle_room-requires
settle_room-requires c =
    subst (λ (o : OrderView). IsTableOf (order_levels Hopeful o) (order_arena Hopeful o) (order_room Hopeful o)) (sym c.fill_room.ensures.filled)
    (c.fill_room.ensures.order.below Hopeful).is_table

pub settle_room-requires-2 : goal.settle_room-requires-2
settle_room-requires-2 c =
    subst (λ (o : OrderView). IsTableOf (order_levels Dual o) (order_arena Dual o) (order_room Dual o)) (sym (hopeful_settled c.args.order c.fill_room.new.self c.settle_room.new.self c.args.rounds c.fill_room.ensures.filled c.settle_room.ensures))
    (c.fill_room.ensures.order.below Dual).is_table

whole : (c : goal.After-settle_room-2) → c.settle_room-2.new.self ≡ alone_of c.args.rounds c.args.order
whole c =
    c.settle_room-2.ensures
    ∙ ap (λ (o : OrderView). with_room Dual (after_rounds (order_levels Dual o) (order_arena Dual o) c.args.rounds (order_room Dual o)) o) (hopeful_settled c.args.order c.fill_room.new.self c.settle_room.new.self c.args.rounds c.fill_room.ensures.filled c.settle_room.ensures)

pub invariant_of-result : goal.invariant_of-result
invariant_of-result c =
    let order = c.args.order in
    let is = c.fill_room.ensures.order in
    record {
      harvest = subst (λ (o : OrderView). IsHarvest (harvest_of o)) (sym (whole c))
          (harvest_made order _ _ is (settled_lawful order is Hopeful c.args.rounds) (settled_lawful order is Dual c.args.rounds));
      noted = λ t. absurd (false≢true t);
    }

pub returns-clause-settled : goal.returns-clause-settled
returns-clause-settled c which =
    ap (λ (o : OrderView). harvest_table which (harvest_of o)) (whole c) ∙ alone_at c.args.rounds c.args.order which

pub returns-clause-order : goal.returns-clause-order
returns-clause-order c = grind (arith, common_steps)
