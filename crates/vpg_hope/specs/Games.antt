-- Plain parity games: a list of vertices, named by their places. Jurdzinski 2000, but that a vertex may have no
-- successor.
use Rattle.std.specs.Prelude.{ℕ, ◌<◌, List, [], length, map, slice_index_or, Contains, All}
use Rattle.vpg_sides.specs.declared.player.Player.{Player}
use Rattle.vpg_sides.specs.declared.player.Player.TheVariants.{Even}

-- a vertex of a plain parity game
pub record Vertex : Type 0 where
  pub owner : Player
  pub priority : ℕ
  pub successors : List ℕ

-- A plain parity game. A vertex may have no successor.
abbrev pub Game : Type 0
Game = List Vertex

-- past the last vertex there are only vertices without a move
abbrev pub isolated : Vertex
isolated = record { owner = Even; priority = 0; successors = [] }

abbrev pub owner_of : Game → ℕ → Player
owner_of game v = (slice_index_or game v isolated).owner

abbrev pub priority_of : Game → ℕ → ℕ
priority_of game v = (slice_index_or game v isolated).priority

abbrev pub successors_of : Game → ℕ → List ℕ
successors_of game v = (slice_index_or game v isolated).successors

abbrev pub priorities : Game → List ℕ
priorities game = map (λ vertex. vertex.priority) game

abbrev pub HasEdge : Game → ℕ → ℕ → Type 0
HasEdge game v w = Contains (successors_of game v) w

-- each successor is a vertex
abbrev pub IsClosed : Game → Type 0
IsClosed game = All (λ vertex. All (λ w. w < length game) vertex.successors) game
