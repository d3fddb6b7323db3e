-- The graph of a game: what it keeps, and its dual.
use Rattle.std.proofs.Common.{◌≡◌, ℕ, zero, suc, ◌+◌, ◌<◌, ◌≤◌, ◌^◌, List, [], ◌∷◌, length, map, get_or, All, refl, sym, ap, ap₂, subst, arith}
use Rattle.std.proofs.lemmas.List.{length-map}
use Rattle.vpg_guards.specs.Formula.{Formula}
use Rattle.vpg_guards.specs.Writing.{IsReadable}
use Rattle.vpg_game.specs.Guarded.{GuardedEdge, GuardedGame, AllGuards, guarded_priorities, dual}
use Rattle.vpg_game.specs.Levels.{levels_of, top_of}
use Rattle.vpg_game.specs.Game.{NamedVertex, NamedGame, IsGame, AreEdges, AreVertices, dual_vertex, unnamed, graph_of, vertex_in, no_vertex, priorities_of}
use Rattle.vpg_game.specs.Laws.{IsGraph, GraphAgrees}

-- ---- vertex by vertex

pub graph_at : (vs : List NamedVertex) (v : ℕ) → vertex_in (map unnamed vs) v ≡ unnamed (get_or vs v no_vertex)
graph_at [] v = refl
graph_at (w ∷ vs) zero = refl
graph_at (w ∷ vs) (suc v) = graph_at vs v

-- ---- what every game keeps

edges_closed : (n m : ℕ) (es : List (GuardedEdge Formula)) → AreEdges n m es → All (λ e. e.to < n) es
edges_closed n m [] are k d lt = absurd (omega arith)
edges_closed n m (e ∷ es) are zero d lt = are.0
edges_closed n m (e ∷ es) are (suc k) d lt = edges_closed n m es are.3 k d (omega arith)

edges_readable : (n m : ℕ) (es : List (GuardedEdge Formula)) → AreEdges n m es → All (λ e. IsReadable m e.guard) es
edges_readable n m [] are k d lt = absurd (omega arith)
edges_readable n m (e ∷ es) are zero d lt = are.1
edges_readable n m (e ∷ es) are (suc k) d lt = edges_readable n m es are.3 k d (omega arith)

vertices_closed : (n m : ℕ) (vs : List NamedVertex) → AreVertices n m vs → All (λ v. All (λ e. e.to < n) v.edges) (map unnamed vs)
vertices_closed n m [] are k d lt = absurd (omega arith)
vertices_closed n m (v ∷ vs) are zero d lt = edges_closed n m v.edges are.2
vertices_closed n m (v ∷ vs) are (suc k) d lt = vertices_closed n m vs are.3 k d (omega arith)

vertices_readable : (n m : ℕ) (vs : List NamedVertex) → AreVertices n m vs → AllGuards (IsReadable m) (map unnamed vs)
vertices_readable n m [] are k d lt = absurd (omega arith)
vertices_readable n m (v ∷ vs) are zero d lt = edges_readable n m v.edges are.2
vertices_readable n m (v ∷ vs) are (suc k) d lt = vertices_readable n m vs are.3 k d (omega arith)

pub same_count : (game : NamedGame) → length (graph_of game) ≡ length game.vertices
same_count game = length-map game.vertices unnamed

pub graph_priorities : (vs : List NamedVertex) → guarded_priorities (map unnamed vs) ≡ priorities_of vs
graph_priorities [] = refl
graph_priorities (v ∷ vs) = ap (λ (ps : List ℕ). v.priority ∷ ps) (graph_priorities vs)

dual_priorities : (vs : List NamedVertex) → guarded_priorities (dual (map unnamed vs)) ≡ map (λ p. p + 1) (priorities_of vs)
dual_priorities [] = refl
dual_priorities (v ∷ vs) = ap₂ (λ (p : ℕ) (ps : List ℕ). p ∷ ps) (omega arith) (dual_priorities vs)

dual_graph : (vs : List NamedVertex) → map unnamed (map dual_vertex vs) ≡ dual (map unnamed vs)
dual_graph [] = refl
dual_graph (v ∷ vs) = ap₂ (λ (p : ℕ) (xs : GuardedGame Formula). record { owner = (dual_vertex v).owner; priority = p; edges = v.edges } ∷ xs) (omega arith) (dual_graph vs)

pub games_have_graphs : (game : NamedGame) → IsGame game → IsGraph game.features (graph_of game)
games_have_graphs game is = record {
  closed = subst (λ (n : ℕ). All (λ v. All (λ e. e.to < n) v.edges) (graph_of game)) (sym (same_count game)) (vertices_closed (length game.vertices) game.features game.vertices is.each);
  named = λ k d lt i e less. (vertices_readable (length game.vertices) game.features game.vertices is.each k d lt i e less).below;
  readable = vertices_readable (length game.vertices) game.features game.vertices is.each;
  top = subst (λ (ps : List ℕ). top_of (levels_of ps) ≤ 2 ^ 62) (sym (graph_priorities game.vertices)) is.narrow.0;
  dual_top = subst (λ (ps : List ℕ). top_of (levels_of ps) ≤ 2 ^ 62) (sym (dual_priorities game.vertices)) is.narrow.1;
}

pub graphs_agree : (game : NamedGame) → GraphAgrees game
graphs_agree game = record { count = same_count game; priorities = graph_priorities game.vertices; of_dual = dual_graph game.vertices }
