-- Vertices that are spelled as entries make the same vertices again.
use Rattle.std.proofs.Common.{◌≡◌, ℕ, suc, ◌+◌, ◌<◌, List, [], ◌∷◌, ◌++◌, length, map, Some, All, refl, sym, ap, ap₂, subst, ◌∙◌, inl, inr, arith, append_assoc}
use Rattle.std.specs.Prelude.{slice_index, slice_index_or}
use Rattle.std.proofs.lemmas.Bool.{cases_lt}
use Rattle.std.proofs.lemmas.List.{append-nil, length-map, get_or_append_left, get_or_push, length-append}
use Rattle.std.proofs.lemmas.Option.{slice_get-get_or}
use Rattle.vpg_guards.specs.Formula.{Formula}
use Rattle.vpg_game.specs.Edges.{GuardedEdge, join_edge, no_edge}
use Rattle.vpg_game.specs.Spelled.{named_in}
use Rattle.vpg_game.specs.Building.{AreReadable, AreLimited}
use Rattle.vpg_game.specs.Game.{NamedVertex, NamedGame, AreEdges, AreVertices, AreDistinct, AllHeld, AllFound, Lacks, vertex_ids, priorities_of, edges_in, entry_ids, entry_priorities, place_of, joined_edges, vertex_of, game_of}
use Rattle.vpg_game.proofs.Build.{index_held}
use Rattle.vpg_game.proofs.Joining.{join_new}
use Rattle.vpg_open.specs.SettledGames.{spelled_edge, spelled_vertex}

module _ (ids : List ℕ) where
  as_many : (es : List (GuardedEdge Formula)) → length (map (spelled_edge ids) es) ≡ length es
  as_many es = length-map es (spelled_edge ids)

  pub same_named : (vs : List NamedVertex) → named_in (map (spelled_vertex ids) vs) ≡ edges_in vs
  same_named [] = refl
  same_named (v ∷ vs) = ap₂ (λ (a b : ℕ). a + b) (as_many v.edges) (same_named vs)

  pub same_ids : (vs : List NamedVertex) → entry_ids (map (spelled_vertex ids) vs) ≡ vertex_ids vs
  same_ids [] = refl
  same_ids (v ∷ vs) = ap (λ (ks : List ℕ). v.id ∷ ks) (same_ids vs)

  readable : (n m : ℕ) (es : List (GuardedEdge Formula)) → AreEdges n m es → AreReadable m (map (spelled_edge ids) es)
  readable n m [] are = tt
  readable n m (e ∷ es) are = (are.1, readable n m es are.3)

  pub limited : (n m : ℕ) (vs : List NamedVertex) → AreVertices n m vs → All (λ p. p < 65536) (priorities_of vs) →
      AreLimited m (map (spelled_vertex ids) vs)
  limited n m [] are low = tt
  limited n m (v ∷ vs) are low = (
    are.0,
    low 0 0 (omega arith),
    readable n m v.edges are.2,
    limited n m vs are.3 (λ k d lt. low (suc k) d (omega (arith, lt))),
  )

  pub same_priorities : (vs : List NamedVertex) → entry_priorities (map (spelled_vertex ids) vs) ≡ priorities_of vs
  same_priorities [] = refl
  same_priorities (v ∷ vs) = ap (λ (ps : List ℕ). v.priority ∷ ps) (same_priorities vs)

  -- each successor is one of the vertices
  edges_held : (m : ℕ) (es : List (GuardedEdge Formula)) → AreEdges (length ids) m es →
      AllHeld ids (map (spelled_edge ids) es)
  edges_held m [] are = tt
  edges_held m (e ∷ es) are = ((e.to, slice_get-get_or ids e.to 0 are.0), edges_held m es are.3)

  pub vertices_held : (m : ℕ) (vs : List NamedVertex) → AreVertices (length ids) m vs →
      AllFound ids (map (spelled_vertex ids) vs)
  vertices_held m [] are = tt
  vertices_held m (v ∷ vs) are = (edges_held m v.edges are.2, vertices_held m vs are.3)

  module _ (distinct : AreDistinct ids) where
    place : (to : ℕ) → to < length ids → place_of ids (slice_index ids to) ≡ to
    place to lt = index_held (slice_index ids to) ids to distinct (slice_get-get_or ids to 0 lt)

    -- edges whose targets differ are joined as they stand
    joined_back : (m : ℕ) (seen es : List (GuardedEdge Formula)) → AreEdges (length ids) m es →
        ((k : ℕ) → k < length seen → Lacks (map (λ f. f.to) es) (slice_index_or seen k no_edge).to) →
        joined_edges ids seen (map (spelled_edge ids) es) ≡ seen ++ es
    joined_back m seen [] are apart = sym (append-nil seen)
    joined_back m seen (e ∷ es) are apart =
        let made : GuardedEdge Formula = record { to = place_of ids (slice_index ids e.to); guard = e.guard } in
        let is : made ≡ e = ap (λ (t : ℕ). let f : GuardedEdge Formula = record { to = t; guard = e.guard } in f)
        (place e.to are.0) in
        let pushed : join_edge seen e ≡ seen ++ e ∷ [] =
        join_new seen e (λ k lt same. apart k lt 0 (ap (λ (n : ℕ). Some n) (sym same))) in
        ap (λ (fs : List (GuardedEdge Formula)). joined_edges ids fs (map (spelled_edge ids) es))
        (ap (join_edge seen) is ∙ pushed)
        ∙ joined_back m (seen ++ e ∷ []) es are.3 more
        ∙ append_assoc seen (e ∷ []) es
      where
        more : (k : ℕ) → k < length (seen ++ e ∷ []) →
            Lacks (map (λ f. f.to) es) (slice_index_or (seen ++ e ∷ []) k no_edge).to
        more k lt = elim (cases_lt k (length seen)) [
          | inl less ↦ subst (λ (f : GuardedEdge Formula). Lacks (map (λ f. f.to) es) f.to)
              (sym (get_or_append_left seen (e ∷ []) no_edge k less)) (λ i. apart k less (suc i))
          | inr most ↦ (
              let here : k ≡ length seen = omega (arith, lt, most, length-append seen (e ∷ [])) in
              subst (λ (f : GuardedEdge Formula). Lacks (map (λ f. f.to) es) f.to)
              (sym (ap (λ (i : ℕ). slice_index_or (seen ++ e ∷ []) i no_edge) here
              ∙ get_or_push seen e no_edge (length seen) refl)) are.2)
        ]

    vertex_back : (m : ℕ) (v : NamedVertex) → AreEdges (length ids) m v.edges →
        vertex_of ids (spelled_vertex ids v) ≡ v
    vertex_back m v are =
        ap (λ (es : List (GuardedEdge Formula)).
        let w : NamedVertex = record { id = v.id; owner = v.owner; priority = v.priority; edges = es } in w)
        (joined_back m [] v.edges are (λ k lt. absurd (omega (arith, lt))))

    vertices_back : (m : ℕ) (vs : List NamedVertex) → AreVertices (length ids) m vs →
        map (vertex_of ids) (map (spelled_vertex ids) vs) ≡ vs
    vertices_back m [] are = refl
    vertices_back m (v ∷ vs) are =
        ap₂ (λ (x : NamedVertex) (xs : List NamedVertex). x ∷ xs) (vertex_back m v are.2) (vertices_back m vs are.3)

    pub game_back : (m : ℕ) (vs : List NamedVertex) → vertex_ids vs ≡ ids → AreVertices (length ids) m vs →
        game_of m (map (spelled_vertex ids) vs) ≡ record { vertices = vs; features = m }
    game_back m vs same are =
        ap (λ (xs : List NamedVertex). let g : NamedGame = record { vertices = xs; features = m } in g)
        (ap (λ (ks : List ℕ). map (vertex_of ks) (map (spelled_vertex ids) vs)) (same_ids vs ∙ same)
        ∙ vertices_back m vs are)
