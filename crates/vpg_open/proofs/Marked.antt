-- The vertices of a game that are marked, and their entries.
use Rattle.std.proofs.Common.{◌≡◌, ℕ, zero, suc, ◌+◌, ◌<◌, ◌≤◌, Bool, true, false, List, [], ◌∷◌, ◌++◌, length, map, take, get_or, All, refl, sym, ap, ap₂, ◌∙◌, arith}
use Rattle.std.specs.Prelude.{◌==◌}
use Rattle.std.proofs.lemmas.List.{length-map, append-nil, map-append, take_all}
use Rattle.vpg_game.specs.Spelled.{SpelledEntry}
use Rattle.vpg_game.specs.Building.{IsLimited}
use Rattle.vpg_game.specs.Game.{NamedVertex, NamedGame, IsGame, IsAtLimit, AreVertices, vertex_ids, priorities_of, edges_in, no_vertex}
use Rattle.vpg_game.proofs.DualGames.{all_below}
use Rattle.vpg_open.specs.SettledGames.{spelled_vertex}
use Rattle.vpg_open.specs.ReachedGames.{marked, marked_entries}
use Rattle.vpg_open.proofs.Spelled.{same_named, limited}

-- ---- what stays

-- a marked vertex is one of the game's
pub marked_at : (vs : List NamedVertex) (marks : List Bool) (n : ℕ) → n < length (marked vs marks) →
    (u : ℕ) × (u < length vs) × (get_or (marked vs marks) n no_vertex ≡ get_or vs u no_vertex)
marked_at [] marks n lt = absurd (omega (arith, lt))
marked_at (v ∷ vs) [] n lt = absurd (omega (arith, lt))
marked_at (v ∷ vs) (true ∷ marks) zero lt = (0, omega arith, refl)
marked_at (v ∷ vs) (true ∷ marks) (suc n) lt =
    let r = marked_at vs marks n (omega (arith, lt)) in (suc r.0, omega (arith, r.1), r.2)
marked_at (v ∷ vs) (false ∷ marks) n lt =
    let r = marked_at vs marks n lt in (suc r.0, omega (arith, r.1), r.2)

fewer_vertices : (vs : List NamedVertex) (marks : List Bool) → length (marked vs marks) ≤ length vs
fewer_vertices [] marks = omega arith
fewer_vertices (v ∷ vs) [] = omega arith
fewer_vertices (v ∷ vs) (true ∷ marks) = omega (arith, fewer_vertices vs marks)
fewer_vertices (v ∷ vs) (false ∷ marks) = omega (arith, fewer_vertices vs marks)

fewer_edges : (vs : List NamedVertex) (marks : List Bool) → edges_in (marked vs marks) ≤ edges_in vs
fewer_edges [] marks = omega arith
fewer_edges (v ∷ vs) [] = omega arith
fewer_edges (v ∷ vs) (true ∷ marks) = omega (arith, fewer_edges vs marks)
fewer_edges (v ∷ vs) (false ∷ marks) = omega (arith, fewer_edges vs marks)

marked_vertices : (n m : ℕ) (vs : List NamedVertex) (marks : List Bool) → AreVertices n m vs →
    AreVertices n m (marked vs marks)
marked_vertices n m [] marks are = tt
marked_vertices n m (v ∷ vs) [] are = tt
marked_vertices n m (v ∷ vs) (true ∷ marks) are = (are.0, are.1, are.2, marked_vertices n m vs marks are.3)
marked_vertices n m (v ∷ vs) (false ∷ marks) are = marked_vertices n m vs marks are.3

low_marked : (P : ℕ → Type 0) (vs : List NamedVertex) (marks : List Bool) → All P (priorities_of vs) →
    All P (priorities_of (marked vs marks))
low_marked P [] marks low = low
low_marked P (v ∷ vs) [] low = λ k d lt. absurd (omega (arith, lt))
low_marked P (v ∷ vs) (true ∷ marks) low = at (low_marked P vs marks (λ j e less. low (suc j) e (omega (arith, less))))
  where
    at : All P (priorities_of (marked vs marks)) → All P (v.priority ∷ priorities_of (marked vs marks))
    at rest zero d lt = low 0 d (omega arith)
    at rest (suc k) d lt = rest k d (omega (arith, lt))
low_marked P (v ∷ vs) (false ∷ marks) low =
    low_marked P vs marks (λ j e less. low (suc j) e (omega (arith, less)))

module _ (game : NamedGame) (marks : List Bool) (is : IsGame game) where
  pub marked_limited : (IsAtLimit game → ⊥) → 0 < length (marked_entries game marks) →
      IsLimited game.features (marked_entries game marks)
  marked_limited low some =
      let vs : List NamedVertex = marked game.vertices marks in
      let count : length (marked_entries game marks) ≡ length vs =
      length-map vs (spelled_vertex (vertex_ids game.vertices)) in
      record {
        some = some;
        few = omega (arith, count, fewer_vertices game.vertices marks, is.few);
        few_successors = omega (
          arith,
          same_named (vertex_ids game.vertices) vs,
          fewer_edges game.vertices marks,
          is.few_edges,
        );
        few_features = is.few_features;
        each = limited (vertex_ids game.vertices) (length game.vertices) game.features vs
            (marked_vertices (length game.vertices) game.features game.vertices marks is.each)
            (low_marked (λ p. p < 65536) game.vertices marks
            (all_below (length game.vertices) game.features game.vertices is.each low));
      }

-- ---- entry by entry

next_is : (k : ℕ) → suc k ≡ k + 1
next_is k = omega arith

marked_none : (vs : List NamedVertex) → marked vs [] ≡ []
marked_none [] = refl
marked_none (v ∷ vs) = refl

-- one more mark
marked_more : (vs : List NamedVertex) (marks : List Bool) (k : ℕ) (d b : Bool) → k < length vs → k < length marks →
    get_or marks k d ≡ b →
    marked vs (take (suc k) marks)
    ≡ marked vs (take k marks) ++ marked (get_or vs k no_vertex ∷ []) (b ∷ [])
marked_more [] marks k d b lt less e = absurd (omega (arith, lt))
marked_more (v ∷ vs) [] k d b lt less e = absurd (omega (arith, less))
marked_more (v ∷ vs) (m ∷ marks) zero d b lt less e = of m b e
  where
    of : (m b : Bool) → m ≡ b → marked (v ∷ vs) (m ∷ []) ≡ marked (v ∷ []) (b ∷ [])
    of true true e = ap (λ (xs : List NamedVertex). v ∷ xs) (marked_none vs)
    of true false e = absurd cc
    of false true e = absurd cc
    of false false e = marked_none vs
marked_more (v ∷ vs) (true ∷ marks) (suc k) d b lt less e =
    ap (λ (xs : List NamedVertex). v ∷ xs) (marked_more vs marks k d b (omega (arith, lt)) (omega (arith, less)) e)
marked_more (v ∷ vs) (false ∷ marks) (suc k) d b lt less e =
    marked_more vs marks k d b (omega (arith, lt)) (omega (arith, less)) e

module _ (game : NamedGame) where
  abbrev spelled : List NamedVertex → List SpelledEntry
  spelled = map (spelled_vertex (vertex_ids game.vertices))

  pub entries_none : (done : List SpelledEntry) → done ≡ [] → done ≡ spelled (marked game.vertices [])
  entries_none done e = e ∙ ap spelled (sym (marked_none game.vertices))

  pub entries_more : (marks : List Bool) (k : ℕ) (d : Bool) (done new : List SpelledEntry) (next : SpelledEntry) →
      k < length game.vertices → k < length marks → get_or marks k d ≡ true →
      done ≡ spelled (marked game.vertices (take k marks)) →
      next ≡ spelled_vertex (vertex_ids game.vertices) (get_or game.vertices k no_vertex) → new ≡ done ++ next ∷ [] →
      new ≡ spelled (marked game.vertices (take (k + 1) marks))
  entries_more marks k d done new next lt less is are e pushed =
      pushed
      ∙ ap₂ (λ (xs : List SpelledEntry) (x : SpelledEntry). xs ++ x ∷ []) are e
      ∙ sym (map-append (spelled_vertex (vertex_ids game.vertices)) (marked game.vertices (take k marks))
      (get_or game.vertices k no_vertex ∷ []))
      ∙ ap spelled (sym (marked_more game.vertices marks k d true lt less is))
      ∙ ap (λ (n : ℕ). spelled (marked game.vertices (take n marks))) (next_is k)

  pub entries_same : (marks : List Bool) (k : ℕ) (d : Bool) (done new : List SpelledEntry) →
      k < length game.vertices → k < length marks → get_or marks k d ≡ false →
      done ≡ spelled (marked game.vertices (take k marks)) → new ≡ done →
      new ≡ spelled (marked game.vertices (take (k + 1) marks))
  entries_same marks k d done new lt less is are e =
      e ∙ are
      ∙ ap spelled (sym (append-nil (marked game.vertices (take k marks)))
      ∙ sym (marked_more game.vertices marks k d false lt less is))
      ∙ ap (λ (n : ℕ). spelled (marked game.vertices (take n marks))) (next_is k)

  pub entries_all : (marks : List Bool) (k : ℕ) (done : List SpelledEntry) → length marks ≤ k →
      done ≡ spelled (marked game.vertices (take k marks)) → done ≡ marked_entries game marks
  entries_all marks k done le are =
      are ∙ ap (λ (ms : List Bool). spelled (marked game.vertices ms)) (take_all k marks le)

pub positive : (n : ℕ) → false ≡ (n == 0) → 0 < n
positive zero e = absurd cc
positive (suc n) e = omega arith
