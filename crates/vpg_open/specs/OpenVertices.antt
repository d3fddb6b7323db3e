-- The verdicts of an order's tables, and the vertices without one. This project's own.
use Rattle.std.specs.Prelude.{◌≡◌, ℕ, Bool, List, Option, Some, None, map, slice_index}
use Rattle.vpg_sides.specs.declared.player.Player.{Player}
use Rattle.vpg_sides.specs.declared.player.Player.TheVariants.{Even, Odd}
use Rattle.vpg_sides.specs.declared.which.Which.{Which}
use Rattle.vpg_sides.specs.declared.which.Which.TheVariants.{Hopeful, Dual}
use Rattle.vpg_game.specs.Game.{graph_of}
use Rattle.vpg_partial.specs.Known.{literal_of}
use Rattle.vpg_partial.specs.KnownLaws.{IsRemaining}
use Rattle.vpg_measure.specs.Orders.{OrderView, order_table}
use Rattle.vpg_measure.specs.TwoGames.{top_for}

-- the table has the top at the vertex
abbrev pub HasTop : Which → OrderView → ℕ → Type 0
HasTop which order v = slice_index (order_table which order) v ≡ top_for which (graph_of order.game)

-- neither table has the top at the vertex
abbrev pub IsOpenVertex : OrderView → ℕ → Type 0
IsOpenVertex order v = (HasTop Hopeful order v → ⊥) × (HasTop Dual order v → ⊥)

-- Odd's verdict is a top of the hopeful table, Even's one of the dual table. Without either the vertex is open.
abbrev pub IsVerdict : OrderView → ℕ → Option Player → Type 0
IsVerdict order v (Some Odd) = HasTop Hopeful order v
IsVerdict order v (Some Even) = HasTop Dual order v
IsVerdict order v None = IsOpenVertex order v

-- a product with every decision of the order
abbrev pub IsLeft : OrderView → List Bool → Type 0
IsLeft order p = IsRemaining order.diagram.lines (map literal_of order.decisions) p
