-- The vertices that name a feature, one vertex after another.
use Rattle.std.proofs.Common.{◌≡◌, ℕ, zero, suc, ◌+◌, ◌<◌, ◌≤◌, List, [], ◌∷◌, length, replicate, get_or, Contains, All, ◌⊎◌, ◌↔◌, inl, inr, refl, sym, ap, ◌∙◌, subst, arith}
use Rattle.std.proofs.lemmas.Bool.{cases_eq, cases_lt}
use Rattle.std.proofs.lemmas.List.{length-replicate, get_or-replicate}
use Rattle.std.proofs.lemmas.List.Elements.{All-append}
use Rattle.vpg_guards.specs.Formula.{Formula, named}
use Rattle.vpg_features.specs.Index.{NotesAlso}
use Rattle.vpg_guards.proofs.Named.{named_below}
use Rattle.vpg_features.proofs.Noted.{Contains-none}
use Rattle.vpg_game.specs.Edges.{GuardedEdge}
use Rattle.vpg_game.specs.Game.{NamedVertex, NamedGame, AreEdges, AreVertices, no_vertex, graph_of, vertex_in}
use Rattle.vpg_game.specs.Naming.{features_named, IsNaming}
use Rattle.vpg_game.proofs.Graphs.{graph_at}

-- ---- each feature named is one of the game's

edges_below : (n m : ℕ) (es : List (GuardedEdge Formula)) → AreEdges n m es → All (λ f. f < m) (features_named es)
edges_below n m [] are = λ k d l. absurd (omega arith)
edges_below n m (e ∷ es) are = All-append (λ f. f < m) (named e.guard) (features_named es) (named_below m e.guard are.1.below) (edges_below n m es are.3)

pub vertices_below : (n m : ℕ) (vs : List NamedVertex) → AreVertices n m vs → All (λ v. All (λ f. f < m) (features_named v.edges)) vs
vertices_below n m [] are k d l = absurd (omega arith)
vertices_below n m (v ∷ vs) are zero d l = edges_below n m v.edges are.2
vertices_below n m (v ∷ vs) are (suc k) d l = vertices_below n m vs are.3 k d (omega arith)

-- ---- the vertices below a bound

abbrev pub named_at : List NamedVertex → ℕ → List ℕ
named_at vs v = features_named (get_or vs v no_vertex).edges

pub record IsNamingSoFar (features : ℕ) (vs : List NamedVertex) (bound : ℕ) (naming : List (List ℕ)) : Type 0 where
  pub count : length naming ≡ features
  pub exact : (f v : ℕ) → Contains (get_or naming f []) v ↔ ((v < bound) × Contains (named_at vs v) f)

abbrev empty_rows : ℕ → List (List ℕ)
empty_rows n = replicate n []

past_rows : (n f : ℕ) → n ≤ f → get_or (empty_rows n) f [] ≡ []
past_rows zero f l = refl
past_rows (suc n) zero l = absurd (omega arith)
past_rows (suc n) (suc f) l = past_rows n f (omega arith)

empty_row : (n f : ℕ) → (f < n) ⊎ (n ≤ f) → get_or (empty_rows n) f [] ≡ []
empty_row n f (inl l) = get_or-replicate n f [] [] l
empty_row n f (inr l) = past_rows n f l

pub naming_none : (n : ℕ) (vs : List NamedVertex) (naming : List (List ℕ)) → naming ≡ replicate n [] → IsNamingSoFar n vs 0 naming
naming_none n vs naming e = record {
  count = ap length e ∙ length-replicate n [];
  exact = λ f v. (
    λ h. absurd (Contains-none v (subst (λ (r : List ℕ). Contains r v) (ap (λ (rs : List (List ℕ)). get_or rs f []) e ∙ empty_row n f (cases_lt f n)) h)),
    λ h. absurd (omega (arith, h.0)),
  );
}

below_next : (u v : ℕ) → (u ≡ v → ⊥) → u < v + 1 → (u < v) ⊎ (v ≤ u) → u < v
below_next u v n l (inl less) = less
below_next u v n l (inr least) = absurd (n (omega arith))

pub naming_more : (n : ℕ) (vs : List NamedVertex) (v : ℕ) (old new : List (List ℕ)) (fs : List ℕ) → fs ≡ named_at vs v → IsNamingSoFar n vs v old → NotesAlso old v fs new → IsNamingSoFar n vs (v + 1) new
naming_more n vs v old new fs e so notes = record {
  count = notes.same_length ∙ so.count;
  exact = λ f u. (λ h. to f u ((notes.exact f u).0 h), λ h. (notes.exact f u).1 (from f u (cases_eq u v) h));
}
  where
    named_to : (f u : ℕ) → u ≡ v → Contains fs f → Contains (named_at vs u) f
    named_to f u q h = subst (λ (k : ℕ). Contains (named_at vs k) f) (sym q) (subst (λ (xs : List ℕ). Contains xs f) e h)

    named_from : (f u : ℕ) → u ≡ v → Contains (named_at vs u) f → Contains fs f
    named_from f u q h = subst (λ (xs : List ℕ). Contains xs f) (sym e) (subst (λ (k : ℕ). Contains (named_at vs k) f) q h)

    to : (f u : ℕ) → Contains (get_or old f []) u ⊎ ((u ≡ v) × Contains fs f) → (u < v + 1) × Contains (named_at vs u) f
    to f u (inl h) = let p = (so.exact f u).0 h in (omega (arith, p.0), p.1)
    to f u (inr q) = (omega (arith, q.0), named_to f u q.0 q.1)

    from : (f u : ℕ) → (u ≡ v) ⊎ (u ≡ v → ⊥) → (u < v + 1) × Contains (named_at vs u) f → Contains (get_or old f []) u ⊎ ((u ≡ v) × Contains fs f)
    from f u (inl q) h = inr (q, named_from f u q h.1)
    from f u (inr n) h = inl ((so.exact f u).1 (below_next u v n h.0 (cases_lt u v), h.1))

past_none : (vs : List NamedVertex) (v : ℕ) → length vs ≤ v → named_at vs v ≡ []
past_none [] v l = refl
past_none (w ∷ vs) zero l = absurd (omega arith)
past_none (w ∷ vs) (suc v) l = past_none vs v (omega arith)

pub naming_whole : (n : ℕ) (vs : List NamedVertex) (bound : ℕ) (naming : List (List ℕ)) → length vs ≤ bound → IsNamingSoFar n vs bound naming → IsNaming n vs naming
naming_whole n vs bound naming all so = record { count = so.count; exact = λ f v. (λ h. ((so.exact f v).0 h).1, λ h. (so.exact f v).1 (within f v h (cases_lt v (length vs)), h)) }
  where
    within : (f v : ℕ) → Contains (named_at vs v) f → (v < length vs) ⊎ (length vs ≤ v) → v < bound
    within f v h (inl l) = omega arith
    within f v h (inr l) = absurd (Contains-none f (subst (λ (xs : List ℕ). Contains xs f) (past_none vs v l) h))

-- ---- said of the graph

pub graph_named : (game : NamedGame) (f v : ℕ) → Contains (named_at game.vertices v) f ↔ Contains (features_named (vertex_in (graph_of game) v).edges) f
graph_named game f v = (
  λ h. subst (λ (es : List (GuardedEdge Formula)). Contains (features_named es) f) (sym same) h,
  λ h. subst (λ (es : List (GuardedEdge Formula)). Contains (features_named es) f) same h,
)
  where
    same : (vertex_in (graph_of game) v).edges ≡ (get_or game.vertices v no_vertex).edges
    same = ap (λ x. x.edges) (graph_at game.vertices v)

pub naming_found : (game : NamedGame) (naming : List (List ℕ)) (row : List ℕ) (f : ℕ) → row ≡ get_or naming f [] → IsNaming game.features game.vertices naming →
    (v : ℕ) → Contains row v ↔ Contains (features_named (vertex_in (graph_of game) v).edges) f
naming_found game naming row f e is v = (
  λ h. (graph_named game f v).0 ((is.exact f v).0 (subst (λ (r : List ℕ). Contains r v) e h)),
  λ h. subst (λ (r : List ℕ). Contains r v) (sym e) ((is.exact f v).1 ((graph_named game f v).1 h)),
)
