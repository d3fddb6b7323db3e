use Rattle.std.proofs.Common.{◌≤◌, ℕ, List, refl, sym, subst, arith}
use Rattle.vpg_sides.specs.declared.which.Which.{Which}
use Rattle.vpg_measure.specs.Orders.{OrderView, IsOrder, IsRaised, order_table}
use Rattle.vpg_refusals.proofs.orders.own_table.Goals as goal

at_most_itself : (n : ℕ) → n ≤ n
at_most_itself n = omega arith

-- an order's own table may stand in a harvest of it
own : (order : OrderView) (which : Which) → IsOrder order → IsRaised which order (order_table which order)
own order which is = record { above = (refl, λ v h. at_most_itself _); below = (is.below which).below }

pub returns : goal.returns
returns c = subst (λ (t : List ℕ). IsRaised c.args.which c.args.order.now t) (sym c.table.ensures.table)
    (own c.args.order.now c.args.which c.table.ensures.order)
