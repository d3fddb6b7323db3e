use Rattle.std.proofs.Common.{length, ap, sym, subst, ◌∙◌, arith}
use Rattle.std.proofs.lemmas.Grind.{common_steps}
use Rattle.std.proofs.lemmas.Bool.{false≢true}
use Rattle.vpg_sides.specs.declared.which.Which.TheVariants.{Hopeful, Dual}
use Rattle.vpg_measure.specs.Orders.{OrderView, harvest_of, IsHarvest}
use Rattle.vpg_measure.proofs.OrderLemmas.{harvest_made, handed_lawful}
use Rattle.vpg_measure.proofs.harvest.Harvest.of.Goals as goal

pub put_room-requires-clause-hopeful : goal.put_room-requires-clause-hopeful
put_room-requires-clause-hopeful c = ap length c.of.ensures ∙ sym c.requires.hopeful.above.0

pub put_room-requires-clause-dual : goal.put_room-requires-clause-dual
put_room-requires-clause-dual c = ap length c.of-2.ensures ∙ sym c.requires.dual.above.0

pub invariant_of-result : goal.invariant_of-result
invariant_of-result c =
    let order = c.args.order in
    let is = c.put_room.ensures.order in
    record {
      harvest = subst (λ (o : OrderView). IsHarvest (harvest_of o)) (sym c.put_room.ensures.put)
          (harvest_made order c.of.result c.of-2.result is
          (handed_lawful order is Hopeful c.of.result (rw c.of.ensures c.requires.hopeful))
          (handed_lawful order is Dual c.of-2.result (rw c.of-2.ensures c.requires.dual)));
      noted = λ t. absurd (false≢true t);
    }

pub returns-clause-order : goal.returns-clause-order
returns-clause-order c = grind (arith, common_steps)
