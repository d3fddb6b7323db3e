-- The text of a plain game is read as that game.
use Rattle.std.proofs.Common.{◌≡◌, ℕ, zero, suc, ◌≤◌, ◌⊎◌, inl, inr, Bool, true, false, List, [], ◌∷◌, length, map, filter, refl, sym, ap, subst, Contains, arith}
use Rattle.std.proofs.lemmas.Bool.{cases_Bool}
use Rattle.std.proofs.lemmas.List.{length-map}
use Rattle.vpg_guards.specs.Formula.{Formula, truth, always}
use Rattle.vpg_features.specs.Names.{AreNames}
use Rattle.vpg_guards.specs.Writing.{IsReadable}
use Rattle.vpg_game.specs.Guarded.{GuardedEdge}
use Rattle.vpg_game.specs.Game.{NamedVertex, NamedGame, IsGame, AreEdges, AreVertices, AreDistinct, IsNarrow, Lacks, edges_in, vertex_ids, priorities_of, unnamed}
use Rattle.vpg_game.proofs.Written.{writings_spell_the_game}
use Rattle.vpg_hope.specs.Games.{Game}
use Rattle.vpg_hope.specs.Hope.{product_game}
use Rattle.vpg_hope.specs.Plain.{IdentifiedGame, projection, unguarded, unguarded_edge}
use Rattle.vpg_hope.specs.PlainLaws.{guarded_of, PlainTextsAreReadAgain}
use Rattle.vpg_hope.proofs.PlainTexts.{ids-unguarded}

-- ---- the edges that stay

abbrev kept : (Formula → Bool) → List (GuardedEdge Formula) → List ℕ
kept test es = map (λ e. e.to) (filter (λ e. test e.guard) es)

kept-true : (test : Formula → Bool) (e : GuardedEdge Formula) (es : List (GuardedEdge Formula)) → test e.guard ≡ true → kept test (e ∷ es) ≡ e.to ∷ kept test es
kept-true test e es h = rw h refl

kept-false : (test : Formula → Bool) (e : GuardedEdge Formula) (es : List (GuardedEdge Formula)) → test e.guard ≡ false → kept test (e ∷ es) ≡ kept test es
kept-false test e es h = rw h refl

kept_few : (test : Formula → Bool) (es : List (GuardedEdge Formula)) → length (kept test es) ≤ length es
kept_few test [] = omega arith
kept_few test (e ∷ es) = decide (cases_Bool (test e.guard)) (kept_few test es)
  where
    decide : (test e.guard ≡ true) ⊎ (test e.guard ≡ false) → length (kept test es) ≤ length es → length (kept test (e ∷ es)) ≤ suc (length es)
    decide (inl t) rest = omega (arith, ap length (kept-true test e es t), rest)
    decide (inr f) rest = omega (arith, ap length (kept-false test e es f), rest)

kept_lacks : (test : Formula → Bool) (es : List (GuardedEdge Formula)) (to : ℕ) → Lacks (map (λ (f : GuardedEdge Formula). f.to) es) to → Lacks (kept test es) to
kept_lacks test [] to lacks = lacks
kept_lacks test (e ∷ es) to lacks = decide (cases_Bool (test e.guard)) (kept_lacks test es to (λ i. lacks (suc i)))
  where
    first : Lacks (kept test es) to → Lacks (e.to ∷ kept test es) to
    first rest zero h = lacks zero h
    first rest (suc i) h = rest i h

    decide : (test e.guard ≡ true) ⊎ (test e.guard ≡ false) → Lacks (kept test es) to → Lacks (kept test (e ∷ es)) to
    decide (inl t) rest = subst (λ (ids : List ℕ). Lacks ids to) (sym (kept-true test e es t)) (first rest)
    decide (inr f) rest = subst (λ (ids : List ℕ). Lacks ids to) (sym (kept-false test e es f)) rest

targets_again : (ws : List ℕ) → map (λ (e : GuardedEdge Formula). e.to) (map unguarded_edge ws) ≡ ws
targets_again [] = refl
targets_again (w ∷ ws) = ap (λ (xs : List ℕ). w ∷ xs) (targets_again ws)

always_readable : IsReadable 0 always
always_readable = record { guard = tt; below = tt; nested = omega arith }

edges_stay : (test : Formula → Bool) (n m : ℕ) (es : List (GuardedEdge Formula)) → AreEdges n m es → AreEdges n 0 (map unguarded_edge (kept test es))
edges_stay test n m [] are = tt
edges_stay test n m (e ∷ es) are = decide (cases_Bool (test e.guard)) (edges_stay test n m es are.3)
  where
    apart : Lacks (map (λ (f : GuardedEdge Formula). f.to) (map unguarded_edge (kept test es))) e.to
    apart = subst (λ (ids : List ℕ). Lacks ids e.to) (sym (targets_again (kept test es))) (kept_lacks test es e.to are.2)

    decide : (test e.guard ≡ true) ⊎ (test e.guard ≡ false) → AreEdges n 0 (map unguarded_edge (kept test es)) → AreEdges n 0 (map unguarded_edge (kept test (e ∷ es)))
    decide (inl t) rest = subst (λ (ws : List ℕ). AreEdges n 0 (map unguarded_edge ws)) (sym (kept-true test e es t)) (are.0, always_readable, apart, rest)
    decide (inr f) rest = subst (λ (ws : List ℕ). AreEdges n 0 (map unguarded_edge ws)) (sym (kept-false test e es f)) rest

-- ---- the vertices, with the edges that stay

abbrev plain_vertices : (Formula → Bool) → List NamedVertex → List NamedVertex
plain_vertices test vs = unguarded (vertex_ids vs) (product_game test (map unnamed vs))

same_count : (test : Formula → Bool) (vs : List NamedVertex) → length (plain_vertices test vs) ≡ length vs
same_count test [] = refl
same_count test (v ∷ vs) = ap suc (same_count test vs)

same_ids : (test : Formula → Bool) (vs : List NamedVertex) → vertex_ids (plain_vertices test vs) ≡ vertex_ids vs
same_ids test [] = refl
same_ids test (v ∷ vs) = ap (λ (ids : List ℕ). v.id ∷ ids) (same_ids test vs)

same_priorities : (test : Formula → Bool) (vs : List NamedVertex) → priorities_of (plain_vertices test vs) ≡ priorities_of vs
same_priorities test [] = refl
same_priorities test (v ∷ vs) = ap (λ (ps : List ℕ). v.priority ∷ ps) (same_priorities test vs)

few_edges : (test : Formula → Bool) (vs : List NamedVertex) → edges_in (plain_vertices test vs) ≤ edges_in vs
few_edges test [] = omega arith
few_edges test (v ∷ vs) = omega (arith, length-map (kept test v.edges) unguarded_edge, kept_few test v.edges, few_edges test vs)

vertices_stay : (test : Formula → Bool) (n m : ℕ) (vs : List NamedVertex) → AreVertices n m vs → AreVertices n 0 (plain_vertices test vs)
vertices_stay test n m [] are = tt
vertices_stay test n m (v ∷ vs) are = (are.0, are.1, edges_stay test n m v.edges are.2, vertices_stay test n m vs are.3)

is_game : (set : List Bool) (game : NamedGame) → IsGame game → IsGame (guarded_of (projection set game))
is_game set game is =
    let vs = plain_vertices (truth set) game.vertices in
    let count : length vs ≡ length game.vertices = same_count (truth set) game.vertices in
    record {
      some = omega (arith, count, is.some);
      few = omega (arith, count, is.few);
      few_edges = omega (arith, few_edges (truth set) game.vertices, is.few_edges);
      few_features = omega arith;
      each = subst (λ n. AreVertices n 0 vs) (sym count) (vertices_stay (truth set) (length game.vertices) game.features game.vertices is.each);
      distinct = subst AreDistinct (sym (same_ids (truth set) game.vertices)) is.distinct;
      narrow = subst IsNarrow (sym (same_priorities (truth set) game.vertices)) is.narrow;
    }

-- ---- the game of the guarded game

kept_again : (set : List Bool) (ws : List ℕ) → kept (truth set) (map unguarded_edge ws) ≡ ws
kept_again set [] = refl
kept_again set (w ∷ ws) = ap (λ (xs : List ℕ). w ∷ xs) (kept_again set ws)

game_again : (set : List Bool) (ids : List ℕ) (game : Game) → length ids ≡ length game → product_game (truth set) (map unnamed (unguarded ids game)) ≡ game
game_again set [] [] same = refl
game_again set [] (vertex ∷ game) same = absurd (omega arith)
game_again set (id ∷ ids) [] same = absurd (omega arith)
game_again set (id ∷ ids) (vertex ∷ game) same = joined (kept_again set vertex.successors) (game_again set ids game (omega arith))
  where
    joined : kept (truth set) (map unguarded_edge vertex.successors) ≡ vertex.successors → product_game (truth set) (map unnamed (unguarded ids game)) ≡ game →
        product_game (truth set) (map unnamed (unguarded (id ∷ ids) (vertex ∷ game))) ≡ vertex ∷ game
    joined e f = λ i. record { owner = vertex.owner; priority = vertex.priority; successors = e i } ∷ f i

projected_again : (set : List Bool) (plain : IdentifiedGame) → length plain.ids ≡ length plain.game → projection set (guarded_of plain) ≡ plain
projected_again set plain same = joined (ids-unguarded plain.ids plain.game same) (game_again set plain.ids plain.game same)
  where
    joined : vertex_ids (unguarded plain.ids plain.game) ≡ plain.ids → product_game (truth set) (map unnamed (unguarded plain.ids plain.game)) ≡ plain.game → projection set (guarded_of plain) ≡ plain
    joined e f = λ i. record { ids = e i; game = f i }

same_length : (test : Formula → Bool) (vs : List NamedVertex) → length (vertex_ids vs) ≡ length (product_game test (map unnamed vs))
same_length test [] = refl
same_length test (v ∷ vs) = ap suc (same_length test vs)

no_names : AreNames []
no_names = record { each = tt; distinct = tt; few = omega arith }

pub plain_texts_are_read_again : PlainTextsAreReadAgain
plain_texts_are_read_again set game is none = record {
  spelled = writings_spell_the_game [] (guarded_of (projection set game)) no_names refl (is_game set game is) (λ limit. none (subst (λ (ps : List ℕ). Contains ps 65536) (same_priorities (truth set) game.vertices) limit));
  same = λ other. projected_again other (projection set game) (same_length (truth set) game.vertices);
}
