use Rattle.std.proofs.Common.{ap, sym, subst, ◌∙◌}
use Rattle.std.proofs.lemmas.Bool.{false≢true}
use Rattle.vpg_sides.specs.declared.which.Which.TheVariants.{Hopeful, Dual}
use Rattle.vpg_measure.specs.Orders.{OrderView, harvest_of, harvest_table, IsHarvest}
use Rattle.vpg_measure.proofs.OrderLemmas.{filled, filled_room, harvest_made, harvest_room, own_lawful}
use Rattle.vpg_measure.proofs.harvest.Harvest.of_order.Goals as goal

pub invariant_of-result : goal.invariant_of-result
invariant_of-result c =
    let order = c.args.order in
    let is = c.fill_room.ensures.order in
    record {
      harvest = subst (λ (o : OrderView). IsHarvest (harvest_of o)) (sym c.fill_room.ensures.filled)
          (harvest_made order order.hopeful order.dual is (own_lawful order is Hopeful) (own_lawful order is Dual));
      noted = λ t. absurd (false≢true t);
    }

pub returns-clause-tables : goal.returns-clause-tables
returns-clause-tables c which =
    ap (λ (o : OrderView). harvest_table which (harvest_of o)) c.fill_room.ensures.filled
    ∙ harvest_room (filled c.args.order) which ∙ filled_room c.args.order which
