use Rattle.std.proofs.Common.{◌<◌, length, sym, subst}
use Rattle.std.proofs.lemmas.Bool.{false≢true}
use Rattle.vpg_measure.specs.Orders.{OrderView, HarvestView, harvest_of, IsHarvest}
use Rattle.vpg_measure.proofs.OrderLemmas.{harvest_room, raised_made, raised_at, rose_at, IsRaisedAt}
use Rattle.vpg_measure.proofs.harvest.Harvest.raise.Goals as goal
use Rattle.vpg_measure.proofs.harvest.Harvest.raise.Goals.{After-raise_room}

pub raise_room-requires-clause-vertex : goal.raise_room-requires-clause-vertex
raise_room-requires-clause-vertex c = subst (λ (h : HarvestView). c.args.v < length h.order.game.vertices) (sym c.self.view_is) c.requires

pub raise_room-requires-clause-table : goal.raise_room-requires-clause-table
raise_room-requires-clause-table c =
    let which = c.args.which in let order = c.self.inside.order in
    rw (sym (harvest_room order which)) (c.self.invariant.harvest.below which).is_table

pub invariant_of-self : goal.invariant_of-self
invariant_of-self c =
    let which = c.args.which in let order = c.self.inside.order in
    record {
      harvest = subst (λ (o : OrderView). IsHarvest (harvest_of o)) (sym c.raise_room.ensures.raised)
          (raised_made order which c.args.v c.self.invariant.harvest (subst (λ (h : HarvestView). c.args.v < length h.order.game.vertices) (sym c.self.view_is) c.requires));
      noted = λ t. absurd (false≢true t);
    }

at : (c : After-raise_room) → IsRaisedAt c.args.which c.args.v c.args.self.now (harvest_of c.raise_room.new.self)
at c = raised_at c.self.inside.order c.raise_room.new.self c.args.self.now c.args.which c.args.v c.self.view_is c.raise_room.ensures.raised

pub returns-clause-order : goal.returns-clause-order
returns-clause-order c = (at (goal.at.returns-clause-order c).After-raise_room).order

pub returns-clause-raised : goal.returns-clause-raised
returns-clause-raised c = (at (goal.at.returns-clause-raised c).After-raise_room).raised

pub returns-clause-other : goal.returns-clause-other
returns-clause-other c = (at (goal.at.returns-clause-other c).After-raise_room).other

pub returns-clause-rose : goal.returns-clause-rose
returns-clause-rose c = rose_at c.self.inside.order c.raise_room.new.self c.args.self.now c.args.which c.raise_room.result c.self.view_is c.raise_room.ensures.rose

pub returns-clause-harvests : goal.returns-clause-harvests
returns-clause-harvests c = (
  subst IsHarvest c.self.view_is c.self.invariant.harvest,
  subst (λ (o : OrderView). IsHarvest (harvest_of o)) (sym c.raise_room.ensures.raised)
      (raised_made c.self.inside.order c.args.which c.args.v c.self.invariant.harvest (subst (λ (h : HarvestView). c.args.v < length h.order.game.vertices) (sym c.self.view_is) c.requires)),
)
