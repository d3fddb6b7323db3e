-- The measures of a board: both tables of an order, one after the other. A place is a vertex of the hopeful table, or a
-- vertex of the dual one after all of the hopeful one. This project's own.
use Rattle.std.specs.Prelude.{◌≡◌, ℕ, ◌+◌, ◌-◌, ◌≤◌, nat_lt, if◌then◌else◌, List, ◌++◌, length, take, drop, slice_index}
use Rattle.vpg_guards.specs.Known.{kleene}
use Rattle.vpg_game.specs.Game.{graph_of}
use Rattle.vpg_hope.specs.Arena.{vertex_at}
use Rattle.vpg_sides.specs.declared.which.Which.{Which}
use Rattle.vpg_sides.specs.declared.which.Which.TheVariants.{Hopeful, Dual}
use Rattle.vpg_measure.specs.Lifts.{lift_of}
use Rattle.vpg_measure.specs.Orders.{OrderView, order_levels, order_arena}
use Rattle.vpg_measure.specs.TwoGames.{IsProgressOf}

-- the number of vertices of the order's game
abbrev pub vertices : OrderView → ℕ
vertices order = length order.game.vertices

-- the number of words of two tables
abbrev pub places : OrderView → ℕ
places order = vertices order + vertices order

-- the place of a vertex: the two tables come one after the other
abbrev pub place_of : OrderView → Which → ℕ → ℕ
place_of order Hopeful v = v
place_of order Dual v = vertices order + v

-- the values of both tables
abbrev pub values : OrderView → List ℕ
values order = order.hopeful ++ order.dual

-- either table of these values
abbrev pub table_in : OrderView → Which → List ℕ → List ℕ
table_in order Hopeful seen = take (vertices order) seen
table_in order Dual seen = drop (vertices order) seen

-- the lift of a vertex over these values (Jurdzinski 2000)
abbrev pub lift_in : OrderView → Which → List ℕ → ℕ → ℕ
lift_in order which seen v =
    lift_of (order_levels which order) (table_in order which seen) (vertex_at (order_arena which order) v)

abbrev pub lift_at : OrderView → List ℕ → ℕ → ℕ
lift_at order seen place =
    if nat_lt place (vertices order) then lift_in order Hopeful seen place
    else lift_in order Dual seen (place - vertices order)

-- both tables are progress tables of their games
pub record AreProgress (order : OrderView) (words : List ℕ) : Type 0 where
  pub wide : length words ≡ places order
  pub each : (which : Which) →
      IsProgressOf (kleene order.known) which (graph_of order.game) (table_in order which words)

-- each value is at most the other's; a missing value counts as zero
abbrev pub Below : List ℕ → List ℕ → Type 0
Below t u = (k : ℕ) → slice_index t k ≤ slice_index u k
