-- The part of an order's game that decides a vertex. This project's own.
use Rattle.std.specs.Prelude.{◌≡◌, ℕ, ◌<◌, Bool, List, length}
use Rattle.vpg_game.specs.Game.{NamedGame, graph_of}
use Rattle.vpg_measure.specs.Orders.{OrderView}
use Rattle.vpg_open.specs.OpenVertices.{IsLeft}
use Rattle.vpg_open.specs.ReachedGames.{HasWinnersOf}

-- in each product left a player wins the part from this place exactly if it wins the order's game from the vertex
pub record IsPartOf (order : OrderView) (vertex : ℕ) (part : NamedGame) (place : ℕ) : Type 0 where
  pub features : part.features ≡ order.game.features
  pub within : place < length (graph_of part)
  pub wins : (p : List Bool) → IsLeft order p → HasWinnersOf (graph_of order.game) vertex p (graph_of part) place

-- an order of the same decisions on such a part
pub record IsPartOrder (order : OrderView) (vertex : ℕ) (part : OrderView) (place : ℕ) : Type 0 where
  pub diagram : part.diagram ≡ order.diagram
  pub decisions : part.decisions ≡ order.decisions
  pub game : IsPartOf order vertex part.game place
