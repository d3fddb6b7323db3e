-- The work of a lifter that shares its tables with nobody. This project's own.
use Rattle.std.specs.Prelude.{ℕ, ◌<◌, ◌≤◌, slice_index}
use Rattle.vpg_hope.specs.Arena.{vertex_at}
use Rattle.vpg_sides.specs.declared.which.Which.{Which}
use Rattle.vpg_measure.specs.Lifts.{lift_of, IsBelowTable}
use Rattle.vpg_measure.specs.Orders.{HarvestView, IsHarvest, IsSameOrder, order_levels, order_arena, harvest_table}

-- two harvests of the same order; the second has no smaller value
pub record Rises (old new : HarvestView) : Type 0 where
  pub from : IsHarvest old
  pub to : IsHarvest new
  pub order : IsSameOrder new.order old.order
  pub above : (which : Which) → IsBelowTable (harvest_table which old) (harvest_table which new)

-- the lift of a vertex over a harvest's table (Jurdzinski 2000)
abbrev pub lift_over : Which → HarvestView → ℕ → ℕ
lift_over which harvest v =
    lift_of (order_levels which harvest.order) (harvest_table which harvest)
    (vertex_at (order_arena which harvest.order) v)

-- at the first n vertices the table is on or above the lift of the table before
abbrev pub AreLifted : Which → HarvestView → HarvestView → ℕ → Type 0
AreLifted which old new n = (v : ℕ) → v < n → lift_over which old v ≤ slice_index (harvest_table which new) v
