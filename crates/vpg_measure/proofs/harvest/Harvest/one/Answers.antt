use Rattle.std.proofs.Common.{◌≡◌, ℕ, List, ap, sym, subst, ◌∙◌, arith}
use Rattle.std.proofs.lemmas.Grind.{common_steps}
use Rattle.std.proofs.lemmas.Bool.{false≢true}
use Rattle.vpg_measure.specs.Lifts.{IsTableOf, raised}
use Rattle.vpg_measure.specs.Orders.{OrderView, harvest_of, harvest_table, order_levels, order_arena, order_room, order_table, other_table, with_room, IsSameOrder, IsHarvest}
use Rattle.vpg_measure.proofs.OrderLemmas.{filled, filled_room, one_made, one_same, one_other, with_room_at}
use Rattle.vpg_measure.proofs.harvest.Harvest.one.Goals as goal

pub raise_room-requires-clause-table : goal.raise_room-requires-clause-table
raise_room-requires-clause-table c =
    let which = c.args.which in
    subst (λ (o : OrderView). IsTableOf (order_levels which o) (order_arena which o) (order_room which o)) (sym c.fill_room.ensures.filled)
    (rw (filled_room c.args.order which) (c.fill_room.ensures.order.below which).is_table)

-- what the lift leaves of the order
lifted : (c : goal.After-raise_room) → c.raise_room.new.self ≡
    with_room c.args.which (raised (order_levels c.args.which c.args.order) (order_arena c.args.which c.args.order) (order_table c.args.which c.args.order) c.args.v) (filled c.args.order)
lifted c =
    let which = c.args.which in
    c.raise_room.ensures.raised
    ∙ ap (λ (o : OrderView). with_room which (raised (order_levels which o) (order_arena which o) (order_room which o) c.args.v) o) c.fill_room.ensures.filled
    ∙ ap (λ (table : List ℕ). with_room which (raised (order_levels which c.args.order) (order_arena which c.args.order) table c.args.v) (filled c.args.order)) (filled_room c.args.order which)

pub invariant_of-result : goal.invariant_of-result
invariant_of-result c = record {
  harvest = subst (λ (o : OrderView). IsHarvest (harvest_of o)) (sym (lifted c)) (one_made c.args.order c.args.which c.args.v c.fill_room.ensures.order c.requires);
  noted = λ t. absurd (false≢true t);
}

pub returns-clause-raised : goal.returns-clause-raised
returns-clause-raised c =
    ap (λ (o : OrderView). harvest_table c.args.which (harvest_of o)) (lifted c) ∙ with_room_at (filled c.args.order) c.args.which _

pub returns-clause-order : goal.returns-clause-order
returns-clause-order c =
    subst (λ (o : OrderView). IsSameOrder (harvest_of o).order c.args.order) (sym (lifted c)) (one_same c.args.order c.args.which _)

pub returns-clause-other : goal.returns-clause-other
returns-clause-other c =
    ap (λ (o : OrderView). harvest_table (other_table c.args.which) (harvest_of o)) (lifted c) ∙ one_other c.args.order c.args.which _

pub raise_room-requires-clause-vertex : goal.raise_room-requires-clause-vertex
raise_room-requires-clause-vertex c = grind (arith, common_steps)
