use Rattle.std.proofs.Common.{ℕ, ◌+◌, ◌<◌, ◌≤◌, subst}
use Rattle.std.specs.Prelude.{slice_index, sum}
use Rattle.vpg_hope.specs.Arena.{vertex_at}
use Rattle.vpg_sides.specs.declared.which.Which.{Which}
use Rattle.vpg_measure.specs.Lifts.{lift_of, IsBelowTable}
use Rattle.vpg_measure.specs.Orders.{OrderView, IsSameOrder, IsSettledHarvest, order_levels, order_arena, order_table, harvest_table}
use Rattle.vpg_board.specs.Places.{vertices}
use Rattle.vpg_board.proofs.sweeping.sweep_along.Goals as goal

-- a board that found no memory gave the order back as it was
pub returns-in-Err-clause-lifted : goal.returns-in-Err-clause-lifted
returns-in-Err-clause-lifted g c =
    let harvest = c.sweep_alone-in-Err.result in
    subst (λ (o : OrderView). (which : Which) (v : ℕ) → v < vertices o → lift_of (order_levels which o) (order_table which o) (vertex_at (order_arena which o) v) ≤ slice_index (harvest_table which harvest) v)
    c.in-Err.ensures.back c.sweep_alone-in-Err.ensures.lifted

pub returns-in-Err-clause-moved : goal.returns-in-Err-clause-moved
returns-in-Err-clause-moved g c =
    let harvest = c.sweep_alone-in-Err.result in
    subst (λ (o : OrderView). ¬ IsSettledHarvest harvest → sum o.hopeful + sum o.dual < sum harvest.hopeful + sum harvest.dual)
    c.in-Err.ensures.back c.sweep_alone-in-Err.ensures.moved

pub returns-in-Err-clause-above : goal.returns-in-Err-clause-above
returns-in-Err-clause-above g c =
    let harvest = c.sweep_alone-in-Err.result in
    subst (λ (o : OrderView). (which : Which) → IsBelowTable (order_table which o) (harvest_table which harvest)) c.in-Err.ensures.back c.sweep_alone-in-Err.ensures.above

pub returns-in-Err-clause-order : goal.returns-in-Err-clause-order
returns-in-Err-clause-order g c = subst (IsSameOrder c.sweep_alone-in-Err.result.order) c.in-Err.ensures.back c.sweep_alone-in-Err.ensures.order

pub returns-in-Ok-clause-lifted : goal.returns-in-Ok-clause-lifted
returns-in-Ok-clause-lifted g c = c.in-Ok.ensures.lifted

pub returns-in-Ok-clause-above : goal.returns-in-Ok-clause-above
returns-in-Ok-clause-above g c = c.in-Ok.ensures.above

pub returns-in-Ok-clause-moved : goal.returns-in-Ok-clause-moved
returns-in-Ok-clause-moved g c = c.in-Ok.ensures.moved

pub returns-then-lifters-eq1-clause-lifted : goal.returns-then-lifters-eq1-clause-lifted
returns-then-lifters-eq1-clause-lifted g c = c.sweep_alone.ensures.lifted

pub returns-then-lifters-eq1-clause-above : goal.returns-then-lifters-eq1-clause-above
returns-then-lifters-eq1-clause-above g c = c.sweep_alone.ensures.above

pub returns-then-lifters-eq1-clause-moved : goal.returns-then-lifters-eq1-clause-moved
returns-then-lifters-eq1-clause-moved g c = c.sweep_alone.ensures.moved
