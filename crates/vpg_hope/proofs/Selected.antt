-- What is selected of a game, vertex by vertex.
use Rattle.std.proofs.Common.{Bor, ℕ, zero, suc, ◌≡◌, ◌+◌, ◌<◌, ◌≤◌, Bool, List, [], ◌∷◌, ◌++◌, length, get_or, set, take, drop, length-append, map, filter, refl, sym, ap, ap₂, ◌∙◌, subst, All, arith}
use Rattle.std.proofs.lemmas.List.{length-map, map_more, drop_more, get_or-map}
use Rattle.std.proofs.lemmas.List.Elements.{All-map, All-filter, All-append}
use Rattle.std.proofs.lemmas.List.Sums.{length-filter, count_by-le-length}
use Rattle.vpg_guards.specs.declared.tri.Tri.{Tri}
use Rattle.vpg_guards.specs.Formula.{Formula, IsBelow}
use Rattle.vpg_guards.specs.Known.{kleene}
use Rattle.vpg_game.specs.Guarded.{GuardedEdge, GuardedVertex, GuardedGame, dual}
use Rattle.vpg_game.specs.Game.{NamedVertex, NamedGame, IsGame, AreVertices, edges_in, graph_of, vertex_in, unnamed, no_vertex}
use Rattle.vpg_game.proofs.Graphs.{games_have_graphs, same_count, graph_at}
use Rattle.vpg_sides.specs.declared.player.Player.{Player}
use Rattle.vpg_hope.specs.Games.{Vertex, isolated}
use Rattle.vpg_hope.specs.Arena.{row_vertices, InLists}
use Rattle.vpg_hope.specs.Kept.{owner_under, priority_under, is_kept, kept_under}
use Rattle.vpg_hope.specs.Selection.{vertex_under}
use Rattle.vpg_hope.specs.declared.arena.Row.{Row}
use Rattle.vpg_hope.proofs.Rows.{shared_row, own_row, row_added, row_replaced, next_replaced, next_kept, all_replaced}
use Rattle.vpg_hope.specs.Hope.{hopeful_game, cautious_game}
use Rattle.vpg_hope.specs.declared.selection.Selection.{Selection}
use Rattle.vpg_hope.specs.declared.selection.Selection.TheVariants.{Hopeful, HopefulOfDual, Cautious, CautiousOfDual}

-- ---- what a game's edges and priorities keep

pub guards_named : (game : NamedGame) (n v : ℕ) → IsGame game → n ≡ game.features → v < length game.vertices → All (λ edge. IsBelow n edge.guard) (vertex_in (graph_of game) v).edges
guards_named game n v is same less =
    subst (λ m. All (λ edge. IsBelow m edge.guard) (vertex_in (graph_of game) v).edges) (sym same)
    ((games_have_graphs game is).named v (unnamed no_vertex) (omega (arith, same_count game)))

edges_closed : (game : NamedGame) (v : ℕ) → IsGame game → v < length game.vertices → All (λ edge. edge.to < length (graph_of game)) (vertex_in (graph_of game) v).edges
edges_closed game v is less = (games_have_graphs game is).closed v (unnamed no_vertex) (omega (arith, same_count game))

priority_at : (n m : ℕ) (vs : List NamedVertex) (v : ℕ) → AreVertices n m vs → v < length vs → (get_or vs v no_vertex).priority ≤ 65536
priority_at n m [] v are less = absurd (omega arith)
priority_at n m (w ∷ vs) zero are less = are.1
priority_at n m (w ∷ vs) (suc v) are less = priority_at n m vs v are.3 (omega arith)

pub priority_fits : (game : NamedGame) (v : ℕ) → IsGame game → v < length game.vertices → (get_or game.vertices v no_vertex).priority ≤ 65536
priority_fits game v is less = priority_at (length game.vertices) game.features game.vertices v is.each less

-- ---- the edges that stay

pub kept_few : (selection : Selection) (owner : Player) (edges : List (GuardedEdge Formula)) → length (kept_under selection owner edges) ≤ length edges
kept_few selection owner edges = few (λ edge. is_kept selection owner edge.guard)
  where
    few : (test : GuardedEdge Formula → Bool) → length (map (λ edge. edge.to) (filter test edges)) ≤ length edges
    few test = omega (arith, length-map (filter test edges) (λ (edge : GuardedEdge Formula). edge.to), length-filter test edges, count_by-le-length test edges)

-- so the successors are no more than the edges of the game
pub few_more : {most : ℕ} (selection : Selection) (owner : Player) (vs : List NamedVertex) (ss more : List ℕ) (v : ℕ) → v < length vs → more ≡ kept_under selection owner (get_or vs v no_vertex).edges →
    length ss + edges_in (drop v vs) ≤ most → length (ss ++ more) + edges_in (drop (v + 1) vs) ≤ most
few_more selection owner vs ss more v less is few =
    omega (
      arith,
      length-append ss more,
      ap length is,
      kept_few selection owner (get_or vs v no_vertex).edges,
      ap edges_in (drop_more vs v no_vertex less),
    )

-- nor with none added
pub few_next : {most : ℕ} (vs : List NamedVertex) (ss : List ℕ) (v : ℕ) → v < length vs → length ss + edges_in (drop v vs) ≤ most → length ss + edges_in (drop (v + 1) vs) ≤ most
few_next vs ss v less few = omega (arith, ap edges_in (drop_more vs v no_vertex less))

-- and one vertex has no more than are left
pub room_at : {most : ℕ} (vs : List NamedVertex) (ss : List ℕ) (v : ℕ) → v < length vs → length ss + edges_in (drop v vs) ≤ most → length ss + length (vertex_in (map unnamed vs) v).edges ≤ most
room_at vs ss v less few =
    omega (arith, ap edges_in (drop_more vs v no_vertex less), ap (λ (x : GuardedVertex Formula). length x.edges) (graph_at vs v))

pub kept_closed : (selection : Selection) (owner : Player) (game : NamedGame) (ss : List ℕ) (v : ℕ) → IsGame game → v < length game.vertices →
    All (λ w. w < length (graph_of game)) ss → All (λ w. w < length (graph_of game)) (ss ++ kept_under selection owner (vertex_in (graph_of game) v).edges)
kept_closed selection owner game ss v is less closed =
    All-append (λ w. w < length (graph_of game)) ss (kept_under selection owner (vertex_in (graph_of game) v).edges) closed
    (All-map (λ w. w < length (graph_of game)) (λ (edge : GuardedEdge Formula). edge.to) (filter (λ edge. is_kept selection owner edge.guard) (vertex_in (graph_of game) v).edges)
    (All-filter (λ (edge : GuardedEdge Formula). is_kept selection owner edge.guard) (λ edge. edge.to < length (graph_of game)) (vertex_in (graph_of game) v).edges (edges_closed game v is less)))

-- ---- one more vertex

pub vertex_made : (selection : Selection) (graph : GuardedGame Formula) (rows : List Row) (ss more : List ℕ) (v s e : ℕ) (owner : Player) (priority : ℕ) →
    All (InLists ss []) rows → row_vertices rows ss [] ≡ map (vertex_under selection) (take v graph) → v < length graph →
    owner ≡ owner_under selection (vertex_in graph v).owner → priority ≡ priority_under selection (vertex_in graph v).priority →
    more ≡ kept_under selection (vertex_in graph v).owner (vertex_in graph v).edges → s ≡ length ss → e ≡ length ss + length more →
    row_vertices (rows ++ shared_row owner priority s e ∷ []) (ss ++ more) [] ≡ map (vertex_under selection) (take (v + 1) graph)
vertex_made selection graph rows ss more v s e owner priority ranges made less same_owner same_priority same_kept hs he =
    row_added rows ss more owner priority s e ranges hs he
    ∙ ap (λ (xs : List Vertex). xs ++ record { owner = owner; priority = priority; successors = more } ∷ []) made
    ∙ ap (λ (x : Vertex). map (vertex_under selection) (take v graph) ++ x ∷ []) (λ i. record { owner = same_owner i; priority = same_priority i; successors = same_kept i })
    ∙ sym (map_more (vertex_under selection) graph v (unnamed no_vertex) less)

-- ---- another in its place

-- the vertices before this are as selected, and the others as they were
abbrev pub AreUpTo : Selection → GuardedGame Formula → List Vertex → ℕ → List Vertex → Type 0
AreUpTo selection graph olds v vertices = vertices ≡ take v (map (vertex_under selection) graph) ++ drop v olds

same_length : (selection : Selection) (graph : GuardedGame Formula) (olds : List Vertex) → length olds ≡ length graph → length olds ≡ length (map (vertex_under selection) graph)
same_length selection graph olds same = same ∙ sym (length-map graph (vertex_under selection))

news_at : (selection : Selection) (graph : GuardedGame Formula) (v : ℕ) (d : Vertex) → v < length graph → get_or (map (vertex_under selection) graph) v d ≡ vertex_under selection (vertex_in graph v)
news_at selection graph v d less = get_or-map (vertex_under selection) graph v (unnamed no_vertex) d less

pub vertex_replaced : (selection : Selection) (graph : GuardedGame Formula) (olds : List Vertex) (rows : List Row) (ss own more : List ℕ) (v : ℕ) → length olds ≡ length graph → v < length graph →
    All (InLists ss own) rows → more ≡ kept_under selection (vertex_in graph v).owner (vertex_in graph v).edges → AreUpTo selection graph olds v (row_vertices rows ss own) →
    AreUpTo selection graph olds (v + 1)
    (row_vertices (set rows v (own_row (owner_under selection (vertex_in graph v).owner) (priority_under selection (vertex_in graph v).priority) (length own) (length (own ++ more)))) ss (own ++ more))
vertex_replaced selection graph olds rows ss own more v same less ranges is made =
    row_replaced rows ss own more v (owner_under selection (vertex_in graph v).owner) (priority_under selection (vertex_in graph v).priority) (length own) (length (own ++ more)) ranges refl (length-append own more)
    ∙ ap₂ (λ (xs : List Vertex) (ws : List ℕ). set xs v (with_successors ws)) made is
    ∙ next_replaced (map (vertex_under selection) graph) olds v (vertex_under selection (vertex_in graph v)) (omega (arith, length-map graph (vertex_under selection))) (same_length selection graph olds same)
    (sym (news_at selection graph v (vertex_under selection (vertex_in graph v)) less))
  where
    with_successors : List ℕ → Vertex
    with_successors ws = record { owner = owner_under selection (vertex_in graph v).owner; priority = priority_under selection (vertex_in graph v).priority; successors = ws }

pub vertex_left : (selection : Selection) (graph : GuardedGame Formula) (olds vertices : List Vertex) (v : ℕ) → length olds ≡ length graph → v < length graph →
    get_or olds v isolated ≡ vertex_under selection (vertex_in graph v) → AreUpTo selection graph olds v vertices → AreUpTo selection graph olds (v + 1) vertices
vertex_left selection graph olds vertices v same less held made =
    made
    ∙ next_kept (map (vertex_under selection) graph) olds v isolated (omega (arith, length-map graph (vertex_under selection))) (same_length selection graph olds same)
    (held ∙ sym (news_at selection graph v isolated less))

pub vertices_selected : (selection : Selection) (graph : GuardedGame Formula) (olds vertices : List Vertex) (v : ℕ) → length olds ≡ length graph → length graph ≤ v →
    AreUpTo selection graph olds v vertices → vertices ≡ map (vertex_under selection) graph
vertices_selected selection graph olds vertices v same past made =
    made ∙ all_replaced (map (vertex_under selection) graph) olds v (omega (arith, length-map graph (vertex_under selection))) (same_length selection graph olds same)

-- ---- the whole games

pub hopeful_is : (known : Bor (List Tri)) (values : List Tri) (graph : GuardedGame Formula) → known.now ≡ values → map (vertex_under (Hopeful known)) graph ≡ hopeful_game (kleene values) graph
hopeful_is known values graph is = ap (λ (vs : List Tri). hopeful_game (kleene vs) graph) is

pub hopeful_of_dual_is : (known : Bor (List Tri)) (values : List Tri) (graph : GuardedGame Formula) → known.now ≡ values → map (vertex_under (HopefulOfDual known)) graph ≡ hopeful_game (kleene values) (dual graph)
hopeful_of_dual_is known values graph is = vertices graph ∙ ap (λ (vs : List Tri). hopeful_game (kleene vs) (dual graph)) is
  where
    vertices : (vertices : GuardedGame Formula) → map (vertex_under (HopefulOfDual known)) vertices ≡ hopeful_game (kleene known.now) (dual vertices)
    vertices [] = refl
    vertices (vertex ∷ rest) = ap (λ (xs : List Vertex). vertex_under (HopefulOfDual known) vertex ∷ xs) (vertices rest)

pub cautious_is : (known : Bor (List Tri)) (values : List Tri) (graph : GuardedGame Formula) → known.now ≡ values → map (vertex_under (Cautious known)) graph ≡ cautious_game (kleene values) graph
cautious_is known values graph is = ap (λ (vs : List Tri). cautious_game (kleene vs) graph) is

pub cautious_of_dual_is : (known : Bor (List Tri)) (values : List Tri) (graph : GuardedGame Formula) → known.now ≡ values → map (vertex_under (CautiousOfDual known)) graph ≡ cautious_game (kleene values) (dual graph)
cautious_of_dual_is known values graph is = vertices graph ∙ ap (λ (vs : List Tri). cautious_game (kleene vs) (dual graph)) is
  where
    vertices : (vertices : GuardedGame Formula) → map (vertex_under (CautiousOfDual known)) vertices ≡ cautious_game (kleene known.now) (dual vertices)
    vertices [] = refl
    vertices (vertex ∷ rest) = ap (λ (xs : List Vertex). vertex_under (CautiousOfDual known) vertex ∷ xs) (vertices rest)
