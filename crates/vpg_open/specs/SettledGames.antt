-- Games in which vertices with a known winner are won at once. This project's own.
use Rattle.std.specs.Prelude.{◌≡◌, ℕ, ◌<◌, ◌↔◌, Bool, List, [], ◌∷◌, Option, Some, None, length, map, slice_index, slice_index_or}
use Rattle.vpg_sides.specs.declared.player.Player.{Player}
use Rattle.vpg_sides.specs.Players.{opponent}
use Rattle.vpg_guards.specs.Formula.{Formula, truth}
use Rattle.vpg_game.specs.Edges.{GuardedEdge}
use Rattle.vpg_game.specs.Guarded.{GuardedGame}
use Rattle.vpg_game.specs.Game.{NamedVertex, NamedGame, vertex_ids}
use Rattle.vpg_game.specs.Spelled.{SpelledSuccessor, SpelledEntry}
use Rattle.vpg_hope.specs.Hope.{product_game}
use Rattle.vpg_determined.specs.Determined.{HasWin}

-- The vertex, won by its winner at once: it belongs to the other player, who cannot move. Without a winner it stays.
abbrev pub settled_vertex : NamedVertex → Option Player → NamedVertex
settled_vertex vertex None = vertex
settled_vertex vertex (Some winner) =
    record { id = vertex.id; owner = opponent winner; priority = vertex.priority; edges = [] }

-- each vertex with its winner, in order
abbrev pub settled_vertices : List NamedVertex → List (Option Player) → List NamedVertex
settled_vertices [] winners = []
settled_vertices (v ∷ vs) [] = v ∷ vs
settled_vertices (v ∷ vs) (winner ∷ winners) = settled_vertex v winner ∷ settled_vertices vs winners

-- the game in which each vertex that has a winner is won by it at once
abbrev pub settled_game : NamedGame → List (Option Player) → NamedGame
settled_game game winners = record { vertices = settled_vertices game.vertices winners; features = game.features }

-- in the product each winner wins from its vertex
abbrev pub AreWinnersIn : GuardedGame Formula → List (Option Player) → List Bool → Type 0
AreWinnersIn game winners p =
    (v : ℕ) (player : Player) → slice_index_or winners v None ≡ Some player →
    HasWin (product_game (truth p) game) player v

-- in the product a player wins the other game from a vertex exactly if it wins the first game from there
abbrev pub HasSameWinners : (game other : GuardedGame Formula) → List Bool → Type 0
HasSameWinners game other p =
    (player : Player) (v : ℕ) → v < length game →
    HasWin (product_game (truth p) other) player v ↔ HasWin (product_game (truth p) game) player v

-- ---- for private contracts alone

-- an edge among vertices with these identifiers, as a text spells it
abbrev pub spelled_edge : List ℕ → GuardedEdge Formula → SpelledSuccessor
spelled_edge ids edge = record { id = slice_index ids edge.to; guard = edge.guard }

-- a vertex among them
abbrev pub spelled_vertex : List ℕ → NamedVertex → SpelledEntry
spelled_vertex ids vertex = record {
  id = vertex.id;
  priority = vertex.priority;
  owner = vertex.owner;
  successors = map (spelled_edge ids) vertex.edges;
}

-- the entries of the game in which each vertex that has a winner is won by it at once
abbrev pub settled_entries : NamedGame → List (Option Player) → List SpelledEntry
settled_entries game winners =
    map (spelled_vertex (vertex_ids game.vertices)) (settled_vertices game.vertices winners)
