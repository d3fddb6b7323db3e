use Rattle.std.proofs.Common.{List, ℕ}
use Rattle.vpg_sides.specs.declared.which.Which.{Which}
use Rattle.vpg_measure.specs.Lifts.{IsTableOf, IsBelowTable, IsProgressTable}
use Rattle.vpg_measure.specs.Orders.{OrderView, IsOrder, IsRaised, order_table, order_levels, order_arena}
use Rattle.vpg_lifting_tests.proofs.asks.settled.Goals as goal

is_raised : (order : OrderView) (which : Which) (table : List ℕ) → IsOrder order → IsBelowTable (order_table which order) table →
    ((other : List ℕ) → IsTableOf (order_levels which order) (order_arena which order) other → IsProgressTable (order_levels which order) (order_arena which order) other →
    IsBelowTable (order_table which order) other → IsBelowTable table other) → IsRaised which order table
is_raised order which table is above stays = record { above = above; below = λ other t p. stays other t p ((is.below which).below other t p) }

pub returns-clause-raised : goal.returns-clause-raised
returns-clause-raised g c = is_raised c.args.order.now c.args.which c.settle_alone-outcome.new.table c.table.ensures.order
    (rw (c.copy_of-table.ensures, c.table.ensures.table) at c.settle_alone-outcome.ensures.above)
    (rw (c.copy_of-table.ensures, c.table.ensures.table, c.shape.ensures, c.arena.ensures) at c.settle_alone-outcome.ensures.below)
