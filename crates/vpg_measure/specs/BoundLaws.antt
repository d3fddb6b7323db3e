-- The laws of bounds, as statements.
use Rattle.std.specs.Prelude.{◌≡◌, ℕ, ◌<◌, List, length, slice_index}
use Rattle.vpg_game.specs.declared.levels.Level.{Level}
use Rattle.vpg_game.specs.Levels.{top_of}
use Rattle.vpg_hope.specs.Arena.{Vertex as Node, IsClosed}
use Rattle.vpg_hope.specs.Comparison.{dual_game}
use Rattle.vpg_measure.specs.Bounds.{AreSupported}
use Rattle.vpg_measure.specs.Lifts.{IsTableOf, IsProgressTable, IsBelowTable}
use Rattle.vpg_measure.specs.Orders.{OrderView, IsOrder, IsRaised, order_table, order_levels, order_arena}
use Rattle.vpg_sides.specs.declared.which.Which.{Which}

-- where a progress table of the dual game is below the top, every progress table of the game is at the top; the two
-- games may have any levels
abbrev pub DualProgressMeansTop : Type 0
DualProgressMeansTop =
    (levels dual_levels : List Level) (arena : List Node) (table dual_table : List ℕ) → IsClosed arena →
    IsTableOf levels arena table → IsProgressTable levels arena table →
    IsTableOf dual_levels (dual_game arena) dual_table → IsProgressTable dual_levels (dual_game arena) dual_table →
    (v : ℕ) → v < length arena → slice_index dual_table v < top_of dual_levels → slice_index table v ≡ top_of levels

-- supported bounds are below every progress table that the table is below
abbrev pub SupportedBoundsHold : Type 0
SupportedBoundsHold =
    (levels dual_levels : List Level) (arena : List Node) (table bounds ranks : List ℕ) → IsClosed arena →
    IsTableOf levels arena table → IsTableOf levels arena bounds → IsTableOf dual_levels arena ranks →
    AreSupported levels dual_levels arena table bounds ranks →
    (other : List ℕ) → IsTableOf levels arena other → IsProgressTable levels arena other → IsBelowTable table other →
    IsBelowTable bounds other

-- a table on or above one of an order's, and below every progress table that the order's is below, may stand in a
-- harvest of that order
abbrev pub RaisedFromOrder : Type 0
RaisedFromOrder =
    (which : Which) (order : OrderView) (table : List ℕ) → IsOrder order →
    IsBelowTable (order_table which order) table →
    ((other : List ℕ) → IsTableOf (order_levels which order) (order_arena which order) other →
    IsProgressTable (order_levels which order) (order_arena which order) other →
    IsBelowTable (order_table which order) other → IsBelowTable table other) →
    IsRaised which order table
