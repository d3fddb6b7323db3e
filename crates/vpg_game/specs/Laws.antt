-- Laws of the definitions.
use Rattle.std.specs.Prelude.{◌≡◌, ℕ, ◌≤◌, ◌^◌, ◌⊎◌, ◌↔◌, Bool, true, List, [], ◌∷◌, length}
use Rattle.vpg_guards.specs.Formula.{Formula, IsBelow, truth}
use Rattle.vpg_features.specs.Names.{AreNames}
use Rattle.vpg_guards.specs.Writing.{IsReadable}
use Rattle.vpg_game.specs.Guarded.{GuardedEdge, GuardedGame, IsClosedGuarded, AllGuards, guarded_priorities, dual}
use Rattle.vpg_game.specs.Levels.{levels_of, top_of}
use Rattle.vpg_game.specs.Game.{NamedGame, IsGame, IsAtLimit, SpellsGame, graph_of, dual_of, priorities_of, place_of, vertex_of}
use Rattle.vpg_game.specs.Spelled.{SpelledSuccessor, SpelledEntry}
use Rattle.vpg_game.specs.Writing.{game_text}

-- a text spells one game at most
abbrev pub TextsSpellOneGame : Type 0
TextsSpellOneGame =
    (names : List (List ℕ)) (text : List ℕ) (g h : NamedGame) → AreNames names → SpellsGame names text g →
    SpellsGame names text h → g ≡ h

-- the text that is written spells the game, if no priority is at the limit
abbrev pub WritingsSpellTheGame : Type 0
WritingsSpellTheGame =
    (names : List (List ℕ)) (game : NamedGame) → AreNames names → length names ≡ game.features → IsGame game →
    ¬ IsAtLimit game → SpellsGame names (game_text names game) game

-- properties of the graph of every game
pub record IsGraph (features : ℕ) (graph : GuardedGame Formula) : Type 0 where
  -- each edge leads to a vertex
  pub closed : IsClosedGuarded graph
  -- guards name features of the game, and can be written and read again
  pub named : AllGuards (IsBelow features) graph
  pub readable : AllGuards (IsReadable features) graph
  -- both tops are within the limit
  pub top : top_of (levels_of (guarded_priorities graph)) ≤ 2 ^ 62
  pub dual_top : top_of (levels_of (guarded_priorities (dual graph))) ≤ 2 ^ 62

-- The graph of every game is closed, its guards can be read again, and both tops are within the limit.
abbrev pub GamesHaveGraphs : Type 0
GamesHaveGraphs = (game : NamedGame) → IsGame game → IsGraph game.features (graph_of game)

-- the graph has the vertices of the game, and the graph of the dual is the dual of the graph
pub record GraphAgrees (game : NamedGame) : Type 0 where
  pub count : length (graph_of game) ≡ length game.vertices
  pub priorities : guarded_priorities (graph_of game) ≡ priorities_of game.vertices
  pub of_dual : graph_of (dual_of game) ≡ dual (graph_of game)

-- The graph of every game has its vertices, and the graph of the dual is the dual of the graph.
abbrev pub GraphsAgree : Type 0
GraphsAgree = (game : NamedGame) → GraphAgrees game

-- some edge to the vertex has a guard that is true in the set of features
abbrev pub SomeEdgeHolds : List Bool → ℕ → List (GuardedEdge Formula) → Type 0
SomeEdgeHolds set to [] = ⊥
SomeEdgeHolds set to (e ∷ es) = ((e.to ≡ to) × (truth set e.guard ≡ true)) ⊎ SomeEdgeHolds set to es

-- some successor that names the vertex has such a guard
abbrev pub SomeNamedHolds : List Bool → List ℕ → ℕ → List SpelledSuccessor → Type 0
SomeNamedHolds set ids to [] = ⊥
SomeNamedHolds set ids to (s ∷ ss) =
    ((place_of ids s.id ≡ to) × (truth set s.guard ≡ true)) ⊎ SomeNamedHolds set ids to ss

-- a vertex has an edge in the game of a product exactly if its entry names a successor with a guard that the product
-- satisfies
abbrev pub EdgesHoldAsNamed : Type 0
EdgesHoldAsNamed =
    (set : List Bool) (ids : List ℕ) (entry : SpelledEntry) (to : ℕ) →
    SomeEdgeHolds set to (vertex_of ids entry).edges ↔ SomeNamedHolds set ids to entry.successors
