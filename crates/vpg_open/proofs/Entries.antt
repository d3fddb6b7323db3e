-- The entries of a game with some vertices won at once are within the limits, and make it.
use Rattle.std.proofs.Common.{◌≡◌, ℕ, zero, suc, ◌+◌, ◌<◌, ◌≤◌, List, [], ◌∷◌, ◌++◌, length, take, get_or, Option, Some, None, All, Contains, refl, sym, ap, ap₂, subst, ◌∙◌, arith}
use Rattle.std.proofs.lemmas.List.{length-map, get_or-map, take_all, take_more}
use Rattle.vpg_sides.specs.declared.player.Player.{Player}
use Rattle.vpg_guards.specs.Formula.{Formula}
use Rattle.vpg_game.specs.Edges.{GuardedEdge}
use Rattle.vpg_game.specs.Spelled.{SpelledEntry}
use Rattle.vpg_game.specs.Building.{IsLimited}
use Rattle.vpg_game.specs.Game.{NamedVertex, NamedGame, IsGame, IsAtLimit, AreVertices, AreDistinct, AreSound, AllFound, IsNarrow, entry_ids, graph_of, game_of, vertex_ids, priorities_of, edges_in, no_vertex, unnamed, vertex_in}
use Rattle.vpg_game.proofs.DualGames.{all_below}
use Rattle.vpg_game.proofs.Graphs.{games_have_graphs, same_count}
use Rattle.vpg_open.specs.SettledGames.{settled_vertex, settled_vertices, settled_game, spelled_vertex, settled_entries}
use Rattle.vpg_open.proofs.Spelled.{same_named, same_ids, same_priorities, vertices_held, limited, game_back}

abbrev Winners : Type 0
Winners = List (Option Player)

-- ---- vertex by vertex

-- what stays where a vertex is won at once
pub same_length : (vs : List NamedVertex) (winners : Winners) → length (settled_vertices vs winners) ≡ length vs
same_length [] winners = refl
same_length (v ∷ vs) [] = refl
same_length (v ∷ vs) (w ∷ winners) = ap suc (same_length vs winners)

id_stays : (v : NamedVertex) (winner : Option Player) → (settled_vertex v winner).id ≡ v.id
id_stays v None = refl
id_stays v (Some p) = refl

priority_stays : (v : NamedVertex) (winner : Option Player) → (settled_vertex v winner).priority ≡ v.priority
priority_stays v None = refl
priority_stays v (Some p) = refl

fewer : (v : NamedVertex) (winner : Option Player) → length (settled_vertex v winner).edges ≤ length v.edges
fewer v None = omega arith
fewer v (Some p) = omega arith

pub ids_stay : (vs : List NamedVertex) (winners : Winners) → vertex_ids (settled_vertices vs winners) ≡ vertex_ids vs
ids_stay [] winners = refl
ids_stay (v ∷ vs) [] = refl
ids_stay (v ∷ vs) (w ∷ winners) =
    ap₂ (λ (k : ℕ) (ks : List ℕ). k ∷ ks) (id_stays v w) (ids_stay vs winners)

priorities_stay : (vs : List NamedVertex) (winners : Winners) →
    priorities_of (settled_vertices vs winners) ≡ priorities_of vs
priorities_stay [] winners = refl
priorities_stay (v ∷ vs) [] = refl
priorities_stay (v ∷ vs) (w ∷ winners) =
    ap₂ (λ (p : ℕ) (ps : List ℕ). p ∷ ps) (priority_stays v w) (priorities_stay vs winners)

fewer_edges : (vs : List NamedVertex) (winners : Winners) → edges_in (settled_vertices vs winners) ≤ edges_in vs
fewer_edges [] winners = omega arith
fewer_edges (v ∷ vs) [] = omega arith
fewer_edges (v ∷ vs) (w ∷ winners) = omega (arith, fewer v w, fewer_edges vs winners)

still_vertices : (n m : ℕ) (vs : List NamedVertex) (winners : Winners) → AreVertices n m vs →
    AreVertices n m (settled_vertices vs winners)
still_vertices n m [] winners are = tt
still_vertices n m (v ∷ vs) [] are = are
still_vertices n m (v ∷ vs) (None ∷ winners) are = (are.0, are.1, are.2, still_vertices n m vs winners are.3)
still_vertices n m (v ∷ vs) (Some p ∷ winners) are = (are.0, are.1, tt, still_vertices n m vs winners are.3)

-- the vertex at a place
pub settled_at : (vs : List NamedVertex) (winners : Winners) (v : ℕ) → length winners ≡ length vs →
    get_or (settled_vertices vs winners) v no_vertex ≡ settled_vertex (get_or vs v no_vertex) (get_or winners v None)
settled_at [] [] v same = refl
settled_at [] (w ∷ winners) v same = absurd (omega (arith, same))
settled_at (v ∷ vs) [] k same = absurd (omega (arith, same))
settled_at (v ∷ vs) (w ∷ winners) zero same = refl
settled_at (v ∷ vs) (w ∷ winners) (suc k) same = settled_at vs winners k (omega (arith, same))

-- the list of winners may end before the vertices do
settled_within : (vs : List NamedVertex) (winners : Winners) (v : ℕ) → v < length vs →
    get_or (settled_vertices vs winners) v no_vertex ≡ settled_vertex (get_or vs v no_vertex) (get_or winners v None)
settled_within [] winners v lt = absurd (omega (arith, lt))
settled_within (v ∷ vs) [] k lt = refl
settled_within (v ∷ vs) (w ∷ winners) zero lt = refl
settled_within (v ∷ vs) (w ∷ winners) (suc k) lt = settled_within vs winners k (omega (arith, lt))

pub settled_spelled : (vs : List NamedVertex) (winners : Winners) (v : ℕ) (winner : Option Player)
    (next : SpelledEntry) → v < length vs → winner ≡ get_or winners v None →
    next ≡ spelled_vertex (vertex_ids vs) (settled_vertex (get_or vs v no_vertex) winner) →
    next
    ≡ spelled_vertex (vertex_ids (settled_vertices vs winners)) (get_or (settled_vertices vs winners) v no_vertex)
settled_spelled vs winners v winner next lt got is =
    is
    ∙ ap₂ (λ (ids : List ℕ) (x : NamedVertex). spelled_vertex ids x) (sym (ids_stay vs winners))
    (ap (settled_vertex (get_or vs v no_vertex)) got ∙ sym (settled_within vs winners v lt))

-- without winners it is the game itself
none_settled : (vs : List NamedVertex) → settled_vertices vs [] ≡ vs
none_settled [] = refl
none_settled (v ∷ vs) = refl

pub settled_none : (game : NamedGame) → settled_game game [] ≡ game
settled_none game =
    ap (λ (vs : List NamedVertex). let g : NamedGame = record { vertices = vs; features = game.features } in g)
    (none_settled game.vertices)

-- ---- entry by entry

abbrev no_entry : SpelledEntry
no_entry = spelled_vertex [] no_vertex

module _ (game : NamedGame) (winners : Winners) (same : length winners ≡ length game.vertices) where
  entry_count : length (settled_entries game winners) ≡ length game.vertices
  entry_count =
      length-map (settled_vertices game.vertices winners) (spelled_vertex (vertex_ids game.vertices))
      ∙ same_length game.vertices winners

  entry_at : (v : ℕ) → v < length game.vertices →
      get_or (settled_entries game winners) v no_entry
      ≡ spelled_vertex (vertex_ids game.vertices)
      (settled_vertex (get_or game.vertices v no_vertex) (get_or winners v None))
  entry_at v lt =
      get_or-map (spelled_vertex (vertex_ids game.vertices)) (settled_vertices game.vertices winners) v no_vertex
      no_entry (omega (arith, lt, same_length game.vertices winners))
      ∙ ap (spelled_vertex (vertex_ids game.vertices)) (settled_at game.vertices winners v same)

  pub entries_more : (v : ℕ) (winner : Option Player) (done new : List SpelledEntry) (next : SpelledEntry) →
      v < length game.vertices → winner ≡ get_or winners v None → done ≡ take v (settled_entries game winners) →
      next ≡ spelled_vertex (vertex_ids game.vertices) (settled_vertex (get_or game.vertices v no_vertex) winner) →
      new ≡ done ++ next ∷ [] → new ≡ take (v + 1) (settled_entries game winners)
  entries_more v winner done new next lt got are is pushed =
      pushed
      ∙ ap₂ (λ (xs : List SpelledEntry) (x : SpelledEntry). xs ++ x ∷ []) are (is
      ∙ ap (λ (w : Option Player). spelled_vertex (vertex_ids game.vertices)
      (settled_vertex (get_or game.vertices v no_vertex) w)) got
      ∙ sym (entry_at v lt))
      ∙ sym (take_more (settled_entries game winners) v no_entry (omega (arith, lt, entry_count)))

  pub entries_all : (v : ℕ) (done : List SpelledEntry) → length game.vertices ≤ v →
      done ≡ take v (settled_entries game winners) → done ≡ settled_entries game winners
  entries_all v done le are = are ∙ take_all v (settled_entries game winners) (omega (arith, le, entry_count))

-- ---- edges of a game

pub edges_within : (game : NamedGame) (v : ℕ) (edges : List (GuardedEdge Formula)) → IsGame game →
    v < length game.vertices → edges ≡ (vertex_in (graph_of game) v).edges →
    All (λ (e : GuardedEdge Formula). e.to < length game.vertices) edges
edges_within game v edges is lt e =
    subst (λ (es : List (GuardedEdge Formula)). All (λ (f : GuardedEdge Formula). f.to < length game.vertices) es)
    (sym e)
    (subst (λ (n : ℕ). All (λ (f : GuardedEdge Formula). f.to < n) (vertex_in (graph_of game) v).edges)
    (same_count game)
    ((games_have_graphs game is).closed v (unnamed no_vertex) (subst (λ (n : ℕ). v < n) (sym (same_count game)) lt)))

-- ---- the game

module _ (game : NamedGame) (winners : Winners) (is : IsGame game) where
  pub settled_limited : (IsAtLimit game → ⊥) → IsLimited game.features (settled_entries game winners)
  settled_limited low =
      let vs : List NamedVertex = settled_vertices game.vertices winners in
      let count : length (settled_entries game winners) ≡ length game.vertices =
      length-map vs (spelled_vertex (vertex_ids game.vertices)) ∙ same_length game.vertices winners in
      record {
        some = omega (arith, count, is.some);
        few = omega (arith, count, is.few);
        few_successors = omega (
          arith,
          same_named (vertex_ids game.vertices) vs,
          fewer_edges game.vertices winners,
          is.few_edges,
        );
        few_features = is.few_features;
        each = limited (vertex_ids game.vertices) (length game.vertices) game.features vs
            (still_vertices (length game.vertices) game.features game.vertices winners is.each)
            (subst (All (λ p. p < 65536)) (sym (priorities_stay game.vertices winners))
            (all_below (length game.vertices) game.features game.vertices is.each low));
      }

  pub settled_is_game : IsGame (settled_game game winners)
  settled_is_game = record {
    some = omega (arith, same_length game.vertices winners, is.some);
    few = omega (arith, same_length game.vertices winners, is.few);
    few_edges = omega (arith, fewer_edges game.vertices winners, is.few_edges);
    few_features = is.few_features;
    each = subst (λ (n : ℕ). AreVertices n game.features (settled_vertices game.vertices winners))
        (sym (same_length game.vertices winners))
        (still_vertices (length game.vertices) game.features game.vertices winners is.each);
    distinct = subst AreDistinct (sym (ids_stay game.vertices winners)) is.distinct;
    narrow = subst IsNarrow (sym (priorities_stay game.vertices winners)) is.narrow;
  }

  each_within : AreVertices (length (vertex_ids game.vertices)) game.features (settled_vertices game.vertices winners)
  each_within =
      subst (λ (n : ℕ). AreVertices n game.features (settled_vertices game.vertices winners))
      (sym (length-map game.vertices (λ (v : NamedVertex). v.id)))
      (still_vertices (length game.vertices) game.features game.vertices winners is.each)

  settled_made : game_of game.features (settled_entries game winners) ≡ settled_game game winners
  settled_made =
      game_back (vertex_ids game.vertices) is.distinct game.features (settled_vertices game.vertices winners)
      (ids_stay game.vertices winners) each_within

  pub settled_sound : AreSound (settled_entries game winners)
  settled_sound =
      let ids : List ℕ = vertex_ids game.vertices in
      let vs : List NamedVertex = settled_vertices game.vertices winners in
      let same : entry_ids (settled_entries game winners) ≡ vertex_ids game.vertices =
      same_ids ids vs ∙ ids_stay game.vertices winners in
      record {
        distinct = subst AreDistinct (sym same) is.distinct;
        found = subst (λ (ks : List ℕ). AllFound ks (settled_entries game winners)) (sym same)
            (vertices_held ids game.features vs each_within);
        narrow = subst IsNarrow (sym (same_priorities ids vs ∙ priorities_stay game.vertices winners)) is.narrow;
      }

  pub is_settled : (made : NamedGame) (features : ℕ) (entries : List SpelledEntry) → features ≡ game.features →
      entries ≡ settled_entries game winners → made ≡ game_of features entries → made ≡ settled_game game winners
  is_settled made features entries e f m =
      m ∙ ap₂ (λ (n : ℕ) (es : List SpelledEntry). game_of n es) e f ∙ settled_made

pub same_graph_length : (game : NamedGame) (winners : Winners) →
    length (graph_of (settled_game game winners)) ≡ length (graph_of game)
same_graph_length game winners =
    same_count (settled_game game winners) ∙ same_length game.vertices winners ∙ sym (same_count game)

pub settled_low : (game : NamedGame) (winners : Winners) → (IsAtLimit game → ⊥) →
    IsAtLimit (settled_game game winners) → ⊥
settled_low game winners low h =
    low (subst (λ (ps : List ℕ). Contains ps 65536) (priorities_stay game.vertices winners) h)
