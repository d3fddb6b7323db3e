-- The edges of a guarded game, each with the set of the products in which its guard holds. FASE 2020.
use Rattle.std.specs.Prelude.{◌≡◌, ℕ, ◌<◌, List, [], Bool, true, ◌↔◌, length, slice_index_or, Contains}
use Rattle.vpg_guards.specs.Formula.{Formula}
use Rattle.vpg_game.specs.Guarded.{GuardedGame}
use Rattle.vpg_hope.specs.Games.{HasEdge}
use Rattle.vpg_zielonka.specs.declared.universe.Universe.{Universe}
use Rattle.vpg_zielonka.specs.Universes.{no_subset, IsInside, IsKnown, has}
use Rattle.vpg_zielonka.specs.declared.edges.Edge.{Edge}
use Rattle.vpg_zielonka.specs.declared.edges.Edges.{Edges}
use Rattle.vpg_zielonka.specs.Parts.{game_in}

-- what stands beyond the end of a list of edges
abbrev pub no_edge : Edge
no_edge = record { from = 0; to = 0; products = no_subset }

-- the edge of a number
abbrev pub edge_at : List Edge → ℕ → Edge
edge_at edges k = slice_index_or edges k no_edge

-- the numbers of a vertex
abbrev pub numbers_at : List (List ℕ) → ℕ → List ℕ
numbers_at rows v = slice_index_or rows v []

-- the edge of this number leads from one vertex to another in the product
pub record Leads (universe : Universe) (edges : List Edge) (product : List Bool) (k v w : ℕ) : Type 0 where
  pub inside : k < length edges
  pub from : (edge_at edges k).from ≡ v
  pub to : (edge_at edges k).to ≡ w
  pub holds : has universe (edge_at edges k).products product ≡ true

-- Edges of the game, all of those that are wanted in products that the universe knows, with the numbers of those that
-- leave and that enter each vertex.
pub record AreListed (universe : Universe) (graph : GuardedGame Formula) (Wanted : List Bool → ℕ → ℕ → Type 0)
    (edges : List Edge) (leaving entering : List (List ℕ)) : Type 0 where
  pub inside : (k : ℕ) → k < length edges → IsInside universe (edge_at edges k).products
  pub from_inside : (k : ℕ) → k < length edges → (edge_at edges k).from < length graph
  pub to_inside : (k : ℕ) → k < length edges → (edge_at edges k).to < length graph
  pub sound : (product : List Bool) (k v w : ℕ) → Leads universe edges product k v w →
      HasEdge (game_in graph product) v w
  pub complete : (product : List Bool) (v w : ℕ) → IsKnown universe product → Wanted product v w →
      (k : ℕ) × Leads universe edges product k v w
  pub leave_count : length leaving ≡ length graph
  pub enter_count : length entering ≡ length graph
  pub leave : (v k : ℕ) → Contains (numbers_at leaving v) k ↔ ((k < length edges) × ((edge_at edges k).from ≡ v))
  pub enter : (v k : ℕ) → Contains (numbers_at entering v) k ↔ ((k < length edges) × ((edge_at edges k).to ≡ v))

-- all edges of the game, in each product that the universe knows
abbrev pub AreAllEdges : Universe → GuardedGame Formula → Edges → Type 0
AreAllEdges universe graph edges = AreListed universe graph (λ p v w. HasEdge (game_in graph p) v w)
    edges.list.items edges.leaving edges.entering

-- those of the first vertices
abbrev pub AreFirstEdges : Universe → GuardedGame Formula → ℕ → Edges → Type 0
AreFirstEdges universe graph n edges = AreListed universe graph (λ p v w. (v < n) × HasEdge (game_in graph p) v w)
    edges.list.items edges.leaving edges.entering
