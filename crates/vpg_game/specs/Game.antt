-- Guarded games, and the game that entries spell. Texts: PGSolver's format; all else is this project's own.
use Rattle.std.specs.Prelude.{◌≡◌, ℕ, ◌+◌, ◌<◌, ◌≤◌, ◌^◌, List, [], ◌∷◌, length, map, take, ◌==◌, Some, slice_get, slice_index_or, Contains}
use Rattle.std.specs.List.{position_or_len}
use Rattle.vpg_sides.specs.declared.player.Player.{Player}
use Rattle.vpg_sides.specs.declared.player.Player.TheVariants.{Even}
use Rattle.vpg_guards.specs.Formula.{Formula}
use Rattle.vpg_guards.specs.Writing.{IsReadable}
use Rattle.vpg_game.specs.Spelled.{SpelledSuccessor, SpelledEntry}
use Rattle.vpg_game.specs.Grammar.{SpellsEntries}
use Rattle.vpg_sides.specs.Players.{opponent}
use Rattle.vpg_game.specs.Edges.{GuardedEdge, join_edge}
use Rattle.vpg_game.specs.Guarded.{GuardedVertex, GuardedGame}
use Rattle.vpg_game.specs.Levels.{levels_of, top_of}

pub record NamedVertex : Type 0 where
  pub id : ℕ
  pub owner : Player
  pub priority : ℕ
  pub edges : List (GuardedEdge Formula)

-- the result of a look-up past the end
abbrev pub no_vertex : NamedVertex
no_vertex = record { id = 0; owner = Even; priority = 0; edges = [] }

-- vertices in file order, over this many features
pub record NamedGame : Type 0 where
  pub vertices : List NamedVertex
  pub features : ℕ

-- the vertex of the dual: owner exchanged, priority plus one
abbrev pub dual_vertex : NamedVertex → NamedVertex
dual_vertex v = record { id = v.id; owner = opponent v.owner; priority = v.priority + 1; edges = v.edges }

-- the dual: owners exchanged, priorities plus one
abbrev pub dual_of : NamedGame → NamedGame
dual_of game = record { vertices = map dual_vertex game.vertices; features = game.features }

-- the game without identifiers
abbrev pub unnamed : NamedVertex → GuardedVertex Formula
unnamed v = record { owner = v.owner; priority = v.priority; edges = v.edges }

-- a game as a list of vertices with guarded edges
abbrev pub graph_of : NamedGame → GuardedGame Formula
graph_of game = map unnamed game.vertices

-- a vertex of the graph, and the result of a look-up past the end
abbrev pub vertex_in : GuardedGame Formula → ℕ → GuardedVertex Formula
vertex_in graph v = slice_index_or graph v (unnamed no_vertex)

-- the identifiers, in file order
abbrev pub vertex_ids : List NamedVertex → List ℕ
vertex_ids vs = map (λ v. v.id) vs

-- the priorities, in file order
abbrev pub priorities_of : List NamedVertex → List ℕ
priorities_of vs = map (λ v. v.priority) vs

-- the number of the top measure of these priorities
abbrev pub top_in : List ℕ → ℕ
top_in priorities = top_of (levels_of priorities)

-- the number of the dual's top measure; its priorities are one greater
abbrev pub dual_top_in : List ℕ → ℕ
dual_top_in priorities = top_of (levels_of (map (λ p. p + 1) priorities))

abbrev pub edges_in : List NamedVertex → ℕ
edges_in [] = 0
edges_in (v ∷ vs) = length v.edges + edges_in vs

-- ---- identifiers

abbrev pub Lacks : List ℕ → ℕ → Type 0
Lacks ids id = (i : ℕ) → slice_get ids i ≡ Some id → ⊥

abbrev pub Holds : List ℕ → ℕ → Type 0
Holds ids id = (i : ℕ) × (slice_get ids i ≡ Some id)

-- no identifier is at two places
abbrev pub AreDistinct : List ℕ → Type 0
AreDistinct [] = Unit {0}
AreDistinct (id ∷ ids) = Lacks ids id × AreDistinct ids

-- the place of an identifier
abbrev pub place_of : List ℕ → ℕ → ℕ
place_of ids id = position_or_len (λ i. id == i) ids

-- ---- the game that entries spell

-- the edges after some that are there
abbrev pub joined_edges : List ℕ → List (GuardedEdge Formula) → List SpelledSuccessor → List (GuardedEdge Formula)
joined_edges ids edges [] = edges
joined_edges ids edges (s ∷ ss) =
    joined_edges ids (join_edge edges (record { to = place_of ids s.id; guard = s.guard })) ss

abbrev pub vertex_of : List ℕ → SpelledEntry → NamedVertex
vertex_of ids e = record { id = e.id; owner = e.owner; priority = e.priority; edges = joined_edges ids [] e.successors }

abbrev pub entry_ids : List SpelledEntry → List ℕ
entry_ids entries = map (λ e. e.id) entries

abbrev pub entry_priorities : List SpelledEntry → List ℕ
entry_priorities entries = map (λ e. e.priority) entries

-- the game over this many features that entries spell: successors are looked up by identifier
abbrev pub game_of : ℕ → List SpelledEntry → NamedGame
game_of features entries = record { vertices = map (vertex_of (entry_ids entries)) entries; features = features }

-- ---- entries that spell a game

abbrev pub AllHeld : List ℕ → List SpelledSuccessor → Type 0
AllHeld ids [] = Unit {0}
AllHeld ids (s ∷ ss) = Holds ids s.id × AllHeld ids ss

abbrev pub AllFound : List ℕ → List SpelledEntry → Type 0
AllFound ids [] = Unit {0}
AllFound ids (e ∷ es) = AllHeld ids e.successors × AllFound ids es

-- both tops are within the limit
abbrev pub IsNarrow : List ℕ → Type 0
IsNarrow priorities = (top_in priorities ≤ 2 ^ 62) × (dual_top_in priorities ≤ 2 ^ 62)

-- The entries make a game: no identifier is at two places, each successor has an entry, and both tops are within the
-- limit.
pub record AreSound (entries : List SpelledEntry) : Type 0 where
  pub distinct : AreDistinct (entry_ids entries)
  pub found : AllFound (entry_ids entries) entries
  pub narrow : IsNarrow (entry_priorities entries)

-- the text spells the game; successors are looked up by identifier, and a target that is named twice has the `or` of
-- its guards
pub record SpellsGame (names : List (List ℕ)) (text : List ℕ) (game : NamedGame) : Type 0 where
  pub entries : List SpelledEntry
  pub spelled : SpellsEntries names text entries
  pub sound : AreSound entries
  pub stands : game_of (length names) entries ≡ game

-- ---- what is wrong with entries

-- the identifier at the first place where it repeats an earlier one
abbrev pub IsFirstDouble : List ℕ → ℕ → Type 0
IsFirstDouble ids id = (n : ℕ) × AreDistinct (take n ids) × (slice_get ids n ≡ Some id) × Holds (take n ids) id

-- the first successor of an entry that no entry has
abbrev pub IsFirstNotHeld : List ℕ → List SpelledSuccessor → ℕ → Type 0
IsFirstNotHeld ids ss id =
    (n : ℕ) × (s : SpelledSuccessor) × (slice_get ss n ≡ Some s) × (s.id ≡ id) × AllHeld ids (take n ss) × Lacks ids id

abbrev pub IsFirstMissing : List ℕ → List SpelledEntry → ℕ → Type 0
IsFirstMissing ids es id =
    (n : ℕ) × (e : SpelledEntry) × (slice_get es n ≡ Some e) × AllFound ids (take n es) ×
    IsFirstNotHeld ids e.successors id

pub record IsMissing (entries : List SpelledEntry) (id : ℕ) : Type 0 where
  pub distinct : AreDistinct (entry_ids entries)
  pub first : IsFirstMissing (entry_ids entries) entries id

pub record AreTooWide (entries : List SpelledEntry) : Type 0 where
  pub distinct : AreDistinct (entry_ids entries)
  pub found : AllFound (entry_ids entries) entries
  pub wide : IsNarrow (entry_priorities entries) → ⊥

-- ---- what every game keeps

abbrev pub AreEdges : ℕ → ℕ → List (GuardedEdge Formula) → Type 0
AreEdges vertices features [] = Unit {0}
AreEdges vertices features (e ∷ es) =
    (e.to < vertices) × IsReadable features e.guard × Lacks (map (λ f. f.to) es) e.to × AreEdges vertices features es

abbrev pub AreVertices : ℕ → ℕ → List NamedVertex → Type 0
AreVertices vertices features [] = Unit {0}
AreVertices vertices features (v ∷ vs) =
    (v.id < 2 ^ 32) × (v.priority ≤ 65536) × AreEdges vertices features v.edges × AreVertices vertices features vs

-- A game within the limits: identifiers differ, and targets of one vertex; guards can be read again; both top
-- measures are at most 2^62.
pub record IsGame (game : NamedGame) : Type 0 where
  pub some : 0 < length game.vertices
  pub few : length game.vertices ≤ 65536
  pub few_edges : edges_in game.vertices ≤ 1048576
  pub few_features : game.features ≤ 512
  pub each : AreVertices (length game.vertices) game.features game.vertices
  pub distinct : AreDistinct (vertex_ids game.vertices)
  pub narrow : IsNarrow (priorities_of game.vertices)

-- some priority is the highest possible: only a dual has one, and has no dual
abbrev pub IsAtLimit : NamedGame → Type 0
IsAtLimit game = Contains (priorities_of game.vertices) 65536
