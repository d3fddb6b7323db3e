-- The dual of a game keeps what every game keeps.
use Rattle.std.proofs.Common.{◌≡◌, ℕ, zero, suc, ◌+◌, ◌<◌, ◌≤◌, ◌^◌, false, cond, List, [], ◌∷◌, ◌++◌, length, map, take, get_or, All, Contains, inl, inr, refl, sym, ap, ap₂, subst, ◌∙◌, arith}
use Rattle.std.specs.Prelude.{◌==◌}
use Rattle.std.specs.List.{list_any}
use Rattle.std.proofs.lemmas.Bool.{cases_Bool, cases_eq}
use Rattle.std.proofs.lemmas.List.{length-map, take_more, get_or-map}
use Rattle.std.proofs.lemmas.Option.{slice_get-get_or}
use Rattle.vpg_game.specs.Game.{NamedVertex, NamedGame, IsGame, AreVertices, AreDistinct, IsAtLimit, dual_vertex, dual_of, edges_in, vertex_ids, priorities_of, top_in, dual_top_in, no_vertex}
use Rattle.vpg_game.proofs.Build.{any_held, index_held}
use Rattle.vpg_game.proofs.Answered.{got_take}
use Rattle.vpg_game.proofs.Duals.{dual_of_dual_has_top}

-- ---- identifiers, one by one

none_before : (ids : List ℕ) (i : ℕ) → AreDistinct ids → i < length ids → list_any (λ k. get_or ids i 0 == k) (take i ids) ≡ false
none_before ids i distinct lt = elim (cases_Bool (list_any (λ k. get_or ids i 0 == k) (take i ids))) [
  | inl any ↦ (
      let id : ℕ = get_or ids i 0 in
      let held = any_held id (take i ids) any in
      let before = got_take ids i held.0 id held.1 in
      let one = index_held id ids i distinct (slice_get-get_or ids i 0 lt) in
      let two = index_held id ids held.0 distinct before.1 in
      absurd (omega (arith, before.0, one, two)))
  | inr none ↦ none
]

pub id_more : (vs : List NamedVertex) (i id : ℕ) (v : NamedVertex) (keys new : List ℕ) → AreDistinct (vertex_ids vs) → keys ≡ take i (vertex_ids vs) → i < length vs → v ≡ get_or vs i v → id ≡ v.id
    → new ≡ cond (list_any (λ k. id == k) keys) keys (keys ++ id ∷ []) → new ≡ take (i + 1) (vertex_ids vs)
id_more vs i id v keys new distinct are lt is same made =
    let within : i < length (vertex_ids vs) = omega (arith, length-map vs (λ (x : NamedVertex). x.id)) in
    let here : id ≡ get_or (vertex_ids vs) i 0 = same ∙ sym (get_or-map (λ (x : NamedVertex). x.id) vs i v 0 lt ∙ ap (λ (x : NamedVertex). x.id) (sym is)) in
    let none : list_any (λ k. id == k) keys ≡ false = ap₂ (λ (n : ℕ) (ks : List ℕ). list_any (λ k. n == k) ks) here are ∙ none_before (vertex_ids vs) i distinct within in
    made ∙ ap (λ b. cond b keys (keys ++ id ∷ [])) none ∙ ap₂ (λ (ks : List ℕ) (n : ℕ). ks ++ n ∷ []) are here ∙ sym (take_more (vertex_ids vs) i 0 within)

-- ---- priorities at the limit

pub none_highest : (vs : List NamedVertex) (n : ℕ) → length vs ≤ n → ((k : ℕ) → k < n → (get_or vs k no_vertex).priority ≡ 65536 → ⊥) → Contains (priorities_of vs) 65536 → ⊥
none_highest vs n all none (k, lt, e) =
    let within : k < length vs = omega (arith, length-map vs (λ (x : NamedVertex). x.priority)) in
    none k (omega arith) (sym (get_or-map (λ (x : NamedVertex). x.priority) vs k no_vertex 65536 within) ∙ e)

pub all_below : (n m : ℕ) (vs : List NamedVertex) → AreVertices n m vs → (Contains (priorities_of vs) 65536 → ⊥) → All (λ p. p < 65536) (priorities_of vs)
all_below n m [] are none k d lt = absurd (omega arith)
all_below n m (v ∷ vs) are none zero d lt = elim (cases_eq v.priority 65536) [
  | inl high ↦ absurd (none (0, omega arith, high))
  | inr low ↦ omega (arith, are.1)
]
all_below n m (v ∷ vs) are none (suc k) d lt = all_below n m vs are.3 (λ h. none (suc h.0, omega (arith, h.1), h.2)) k d (omega arith)

pub priority_below : (vs : List NamedVertex) (i : ℕ) (v : NamedVertex) → All (λ p. p < 65536) (priorities_of vs) → i < length vs → v ≡ get_or vs i v → v.priority < 65536
priority_below vs i v below lt is =
    let within : i < length (priorities_of vs) = omega (arith, length-map vs (λ (x : NamedVertex). x.priority)) in
    subst (λ p. p < 65536) (get_or-map (λ (x : NamedVertex). x.priority) vs i v 0 lt ∙ ap (λ (x : NamedVertex). x.priority) (sym is)) (below i 0 within)

-- ---- the dual

pub dual_ids : (vs : List NamedVertex) → vertex_ids (map dual_vertex vs) ≡ vertex_ids vs
dual_ids [] = refl
dual_ids (v ∷ vs) = ap (λ (ks : List ℕ). v.id ∷ ks) (dual_ids vs)

raised_priorities : (vs : List NamedVertex) → priorities_of (map dual_vertex vs) ≡ map (λ p. p + 1) (priorities_of vs)
raised_priorities [] = refl
raised_priorities (v ∷ vs) = ap (λ (ps : List ℕ). (v.priority + 1) ∷ ps) (raised_priorities vs)

same_edges : (vs : List NamedVertex) → edges_in (map dual_vertex vs) ≡ edges_in vs
same_edges [] = refl
same_edges (v ∷ vs) = ap (λ (n : ℕ). length v.edges + n) (same_edges vs)

dual_vertices_are : (n m : ℕ) (vs : List NamedVertex) → AreVertices n m vs → All (λ p. p < 65536) (priorities_of vs) → AreVertices n m (map dual_vertex vs)
dual_vertices_are n m [] are below = tt
dual_vertices_are n m (v ∷ vs) are below = (are.0, omega (arith, below 0 0 (omega arith)), are.2, dual_vertices_are n m vs are.3 (λ k d lt. below (suc k) d (omega arith)))

pub dual_top : (vs : List NamedVertex) → top_in (priorities_of (map dual_vertex vs)) ≡ dual_top_in (priorities_of vs)
dual_top vs = ap top_in (raised_priorities vs)

pub dual_of_dual_top : (vs : List NamedVertex) → dual_top_in (priorities_of (map dual_vertex vs)) ≡ top_in (priorities_of vs)
dual_of_dual_top vs = ap dual_top_in (raised_priorities vs) ∙ dual_of_dual_has_top (priorities_of vs)

pub is_dual : (game : NamedGame) → IsGame game → (IsAtLimit game → ⊥) → IsGame (dual_of game)
is_dual game is none =
    let vs : List NamedVertex = game.vertices in
    let count : length (map dual_vertex vs) ≡ length vs = length-map vs dual_vertex in
    record {
      some = omega (arith, count, is.some);
      few = omega (arith, count, is.few);
      few_edges = omega (arith, same_edges vs, is.few_edges);
      few_features = is.few_features;
      each = subst (λ (n : ℕ). AreVertices n game.features (map dual_vertex vs)) (sym count) (dual_vertices_are (length vs) game.features vs is.each (all_below (length vs) game.features vs is.each none));
      distinct = subst AreDistinct (sym (dual_ids vs)) is.distinct;
      narrow = (
        subst (λ (n : ℕ). n ≤ 2 ^ 62) (sym (dual_top vs)) is.narrow.1,
        subst (λ (n : ℕ). n ≤ 2 ^ 62) (sym (dual_of_dual_top vs)) is.narrow.0,
      );
    }
