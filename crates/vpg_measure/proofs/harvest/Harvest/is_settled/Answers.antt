use Rattle.std.proofs.Common.{◌↔◌, subst, IsTrue}
use Rattle.vpg_measure.specs.Lifts.{IsProgressTable}
use Rattle.vpg_measure.specs.Orders.{HarvestView, harvest_table, order_levels, order_arena}
use Rattle.vpg_measure.proofs.OrderLemmas.{harvest_room}
use Rattle.vpg_measure.proofs.harvest.Harvest.is_settled.Goals as goal

pub returns : goal.returns
returns c =
    subst (λ (harvest : HarvestView). IsTrue c.is_progress.result ↔
    IsProgressTable (order_levels c.args.which harvest.order) (order_arena c.args.which harvest.order) (harvest_table c.args.which harvest))
    c.self.view_is
    (rw (harvest_room c.self.inside.order c.args.which) (rw (c.shape.ensures, c.arena.ensures, c.room.ensures) at c.is_progress.ensures))

pub is_progress-requires : goal.is_progress-requires
is_progress-requires c =
    rw (c.shape.ensures, c.arena.ensures, c.room.ensures, ← harvest_room c.self.inside.order c.args.which)
    (c.self.invariant.harvest.below c.args.which).is_table
