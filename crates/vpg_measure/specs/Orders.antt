-- Orders and harvests: what lifters take from a page, and what they bring back. This project's own.
use Rattle.std.specs.Prelude.{◌≡◌, ℕ, List, length, map}
use Rattle.vpg_guards.specs.declared.tri.Tri.{Tri}
use Rattle.vpg_guards.specs.Known.{kleene}
use Rattle.vpg_diagram.specs.DiagramText.{NamedDiagram, IsNamedDiagram}
use Rattle.vpg_diagram.specs.FeatureDiagram.{feature_count}
use Rattle.vpg_game.specs.Game.{NamedGame, IsGame, IsAtLimit, graph_of}
use Rattle.vpg_game.specs.declared.levels.Level.{Level}
use Rattle.vpg_partial.specs.declared.decision.Decision.{Decision}
use Rattle.vpg_partial.specs.Known.{literal_of}
use Rattle.vpg_partial.specs.TableLaws.{AreChoicesOf, IsKnownTable}
use Rattle.vpg_hope.specs.Games.{Game}
use Rattle.vpg_sides.specs.declared.which.Which.{Which}
use Rattle.vpg_sides.specs.declared.which.Which.TheVariants.{Hopeful, Dual}
use Rattle.vpg_measure.specs.Least.{IsBelowProgressTables}
use Rattle.vpg_measure.specs.Lifts.{IsBelowTable, IsProgressTable}
use Rattle.vpg_measure.specs.TwoGames.{levels_for, arena_for, IsTableBelow}

-- the game, the diagram, the decisions and both tables of a page, and what the decisions make known of each feature
pub record OrderView : Type 0 where
  pub game : NamedGame
  pub diagram : NamedDiagram
  pub decisions : List Decision
  pub known : List Tri
  pub hopeful : List ℕ
  pub dual : List ℕ
  -- room for two raised tables; the values there mean nothing in an order
  pub hopeful_room : List ℕ
  pub dual_room : List ℕ

-- an order, and its two tables raised
pub record HarvestView : Type 0 where
  pub order : OrderView
  pub hopeful : List ℕ
  pub dual : List ℕ

-- the harvest with the tables in the order's room
abbrev pub harvest_of : OrderView → HarvestView
harvest_of order = record { order = order; hopeful = order.hopeful_room; dual = order.dual_room }

-- either table of an order
abbrev pub order_table : Which → OrderView → List ℕ
order_table Hopeful order = order.hopeful
order_table Dual order = order.dual

-- either table of a harvest
abbrev pub harvest_table : Which → HarvestView → List ℕ
harvest_table Hopeful harvest = harvest.hopeful
harvest_table Dual harvest = harvest.dual

-- the room for a raised table, and the order with another table there
abbrev pub order_room : Which → OrderView → List ℕ
order_room Hopeful order = order.hopeful_room
order_room Dual order = order.dual_room

abbrev pub with_room : Which → List ℕ → OrderView → OrderView
with_room Hopeful room order = record order { hopeful_room = room }
with_room Dual room order = record order { dual_room = room }

-- the other table
abbrev pub other_table : Which → Which
other_table Hopeful = Dual
other_table Dual = Hopeful

-- the levels of either of the order's two games
abbrev pub order_levels : Which → OrderView → List Level
order_levels which order = levels_for which (graph_of order.game)

-- the kept edges of either of the order's two games
abbrev pub order_arena : Which → OrderView → Game
order_arena which order = arena_for (kleene order.known) which (graph_of order.game)

-- the table is below every progress table of the game under the decisions
abbrev pub IsOpeningTable : NamedGame → NamedDiagram → List Decision → Which → List ℕ → Type 0
IsOpeningTable game diagram decisions which table =
    (known : List Tri) → IsKnownTable diagram.lines (map literal_of decisions) known →
    IsTableBelow (kleene known) which (graph_of game) table

-- Properties of every order. Above all, its tables are below every progress table of their games.
pub record IsOrder (order : OrderView) : Type 0 where
  pub game : IsGame order.game
  pub not_at_limit : ¬ IsAtLimit order.game
  pub diagram : IsNamedDiagram order.diagram
  pub features : order.game.features ≡ feature_count order.diagram.lines
  pub named : AreChoicesOf order.diagram.lines (map literal_of order.decisions)
  pub known : IsKnownTable order.diagram.lines (map literal_of order.decisions) order.known
  pub below : (which : Which) → IsTableBelow (kleene order.known) which (graph_of order.game) (order_table which order)
  pub hopeful_room : length order.hopeful_room ≡ length order.game.vertices
  pub dual_room : length order.dual_room ≡ length order.game.vertices

-- Properties of every harvest: its tables are on or above its order's, and below every progress table.
pub record IsHarvest (harvest : HarvestView) : Type 0 where
  pub order : IsOrder harvest.order
  pub above : (which : Which) → IsBelowTable (order_table which harvest.order) (harvest_table which harvest)
  pub below : (which : Which) →
      IsTableBelow (kleene harvest.order.known) which (graph_of harvest.order.game) (harvest_table which harvest)

-- the table may stand in a harvest of the order: it is on or above the order's, and below every progress table
pub record IsRaised (which : Which) (order : OrderView) (table : List ℕ) : Type 0 where
  pub above : IsBelowTable (order_table which order) table
  pub below : IsBelowProgressTables (order_levels which order) (order_arena which order) table

-- both tables of the order are progress tables
abbrev pub IsSettledOrder : OrderView → Type 0
IsSettledOrder order =
    (which : Which) → IsProgressTable (order_levels which order) (order_arena which order) (order_table which order)

-- both tables of the harvest are progress tables
abbrev pub IsSettledHarvest : HarvestView → Type 0
IsSettledHarvest harvest =
    (which : Which) →
    IsProgressTable (order_levels which harvest.order) (order_arena which harvest.order) (harvest_table which harvest)

-- the same order, but for the tables in its room
pub record IsSameOrder (one other : OrderView) : Type 0 where
  pub game : one.game ≡ other.game
  pub diagram : one.diagram ≡ other.diagram
  pub decisions : one.decisions ≡ other.decisions
  pub known : one.known ≡ other.known
  pub hopeful : one.hopeful ≡ other.hopeful
  pub dual : one.dual ≡ other.dual

-- the order of the same page with the harvest's tables
pub record IsOrderAgain (order : OrderView) (harvest : HarvestView) : Type 0 where
  pub game : order.game ≡ harvest.order.game
  pub diagram : order.diagram ≡ harvest.order.diagram
  pub decisions : order.decisions ≡ harvest.order.decisions
  pub known : order.known ≡ harvest.order.known
  pub hopeful : order.hopeful ≡ harvest.hopeful
  pub dual : order.dual ≡ harvest.dual
