-- The kept edges of an order's games the other way round. This project's own.
use Rattle.std.specs.Prelude.{◌≡◌, ℕ, List, [], slice_index_or}
use Rattle.vpg_hope.specs.Games.{Game, successors_of}
use Rattle.vpg_sides.specs.declared.which.Which.{Which}
use Rattle.vpg_sides.specs.declared.which.Which.TheVariants.{Hopeful, Dual}
use Rattle.vpg_board.specs.Rule.{times}

-- the number of vertices, and for each of them the vertices that keep an edge to it, in either game
pub record PredecessorsView : Type 0 where
  pub vertices : ℕ
  pub hopeful : List (List ℕ)
  pub dual : List (List ℕ)

-- the lists of either game
abbrev pub predecessors_in : Which → PredecessorsView → List (List ℕ)
predecessors_in Hopeful predecessors = predecessors.hopeful
predecessors_in Dual predecessors = predecessors.dual

-- u is listed at v as often as it keeps an edge to v
abbrev pub ArePredecessors : Game → List (List ℕ) → Type 0
ArePredecessors game lists = (u v : ℕ) → times u (slice_index_or lists v []) ≡ times v (successors_of game u)
