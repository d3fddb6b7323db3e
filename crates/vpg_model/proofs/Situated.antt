-- What is built of pairs is built of their situations.
use Rattle.std.proofs.Common.{◌≡◌, ℕ, zero, suc, ◌<◌, ◌⊎◌, inl, inr, Bool, List, [], ◌∷◌, length, get_or, map, refl, sym, ◌∙◌, subst, ap, ap₂, Contains, arith}
use Rattle.std.specs.List.{AllZip}
use Rattle.std.proofs.lemmas.List.{length-map}
use Rattle.vpg_sides.specs.declared.player.Player.TheVariants.{Even}
use Rattle.vpg_guards.specs.Formula.{Formula as Guard}
use Rattle.vpg_game.specs.Guarded.{GuardedEdge, GuardedVertex, GuardedGame}
use Rattle.vpg_requirement.specs.Systems.{System}
use Rattle.vpg_requirement.specs.NormalForms.{NormalForm}
use Rattle.vpg_requirement.specs.Situations.{Binder, Situation, situation, situation_at, no_situation}
use Rattle.vpg_requirement.specs.Building.{GuardedMove, guarded_moves, targets_from as situations_from, IsEdgeOf, IsRowOf, IsBuiltOf, IsReached}
use Rattle.vpg_parts.specs.declared.part.Part.{Part}
use Rattle.vpg_model.specs.Departures.{Departure, PairMove}
use Rattle.vpg_parts.specs.Parts.{resolved_part}
use Rattle.vpg_model.specs.Pairs.{pair_for, pair_at, targets, pair_moves, IsPairEdge, IsPairRow, AreReached, ArePlaced, IsPairGame}
use Rattle.vpg_model.specs.Forms.{AreDepartures, StandFor, situation_in, HasLabels}
use Rattle.vpg_model.specs.Laws.{PairGameIsBuilt, AreRooted, IsGameOfParts}
use Rattle.vpg_model.proofs.Search.{Pairs}
use Rattle.vpg_model.proofs.Shared.{homes, one_met, one_unmet}
use Rattle.vpg_model.proofs.Forms.{AllLabels, move_in, home_is, IsSituated, pair_situated}

map_at : {X Y : Type 0} (f : X → Y) (xs : List X) (d : X) (e : Y) (k : ℕ) → k < length xs → get_or (map f xs) k e ≡ f (get_or xs k d)
map_at f [] d e k l = absurd (omega arith)
map_at f (x ∷ xs) d e zero l = refl
map_at f (x ∷ xs) d e (suc k) l = map_at f xs d e k (omega arith)

contains_map : {X Y : Type 0} (f : X → Y) (xs : List X) (x : X) → Contains xs x → Contains (map f xs) (f x)
contains_map f xs x h = (h.0, rw length-map (h.1), map_at f xs x (f x) h.0 h.1 ∙ ap f h.2)

map_map : (form : ℕ → NormalForm) (scope : ℕ → List Binder) (moves : List PairMove) →
    ◌≡◌ {A = List Situation} (map (λ (m : GuardedMove). m.to) (map (move_in form scope) moves)) (map (situation_in form scope) (targets moves))
map_map form scope [] = refl
map_map form scope (move ∷ moves) = ap (λ (l : List Situation). situation_in form scope move.to ∷ l) (map_map form scope moves)

module _ (labels : ℕ) (system : System Guard) (states : List (List Departure)) (sets : List (List Bool)) (parts : List Part) (form : ℕ → NormalForm) (scope : ℕ → List Binder)
    (are : AreDepartures system states) (known : AllLabels labels states) (arena : StandFor labels sets parts form scope) where
  abbrev sit : ℕ × ℕ → Situation
  sit pair = situation_in form scope pair

  place_is : (pairs : Pairs) (k : ℕ) → k < length pairs → situation_at (map sit pairs) k ≡ sit (pair_at pairs k)
  place_is pairs k l = map_at sit pairs (0, 0) no_situation k l

  edge_is : (pairs : Pairs) (move : PairMove) (edge : GuardedEdge Guard) → IsPairEdge pairs move edge → IsEdgeOf (map sit pairs) (move_in form scope move) edge
  edge_is pairs move edge h = record { guard = h.guard; inside = let l = h.inside in rw length-map l; target = place_is pairs edge.to h.inside ∙ ap sit h.target }

  edges_are : (pairs : Pairs) (moves : List PairMove) (named : List (GuardedEdge Guard)) → AllZip (IsPairEdge pairs) moves named → AllZip (IsEdgeOf (map sit pairs)) (map (move_in form scope) moves) named
  edges_are pairs [] [] h = tt
  edges_are pairs [] (edge ∷ named) h = absurd h
  edges_are pairs (move ∷ moves) [] h = absurd h
  edges_are pairs (move ∷ moves) (edge ∷ named) h = (edge_is pairs move edge h.0, edges_are pairs moves named h.1)

  row_is : (pairs : Pairs) (pair : ℕ × ℕ) (vertex : GuardedVertex Guard) → IsPairRow states sets parts pairs pair vertex → IsRowOf Even 0 system (map sit pairs) (sit pair) vertex
  row_is pairs pair vertex h = of (pair_situated labels system states sets parts form scope are known arena pair)
    where
      of : IsSituated labels system states sets parts form scope are known arena pair.0 (sit pair) (resolved_part parts pair.1) → IsRowOf Even 0 system (map sit pairs) (sit pair) vertex
      of i = record {
        owner = h.owner ∙ i.owner;
        priority = h.priority ∙ i.priority;
        named = h.edges.named;
        edges = h.edges.joined;
        moves = subst (λ (ms : List GuardedMove). AllZip (IsEdgeOf (map sit pairs)) ms h.edges.named) (sym i.moves) (edges_are pairs (pair_moves states sets parts pair) h.edges.named h.edges.each);
      }

  rows_are : (pairs rest : Pairs) (game : GuardedGame Guard) → AllZip (IsPairRow states sets parts pairs) rest game → AllZip (IsRowOf Even 0 system (map sit pairs)) (map sit rest) game
  rows_are pairs [] [] h = tt
  rows_are pairs [] (row ∷ game) h = absurd h
  rows_are pairs (pair ∷ rest) [] h = absurd h
  rows_are pairs (pair ∷ rest) (row ∷ game) h = (row_is pairs pair row h.0, rows_are pairs rest game h.1)

  move_reached : (pairs : Pairs) (u : ℕ) (target : ℕ × ℕ) → u < length pairs → Contains (targets (pair_moves states sets parts (pair_at pairs u))) target →
      Contains (map (λ (m : GuardedMove). m.to) (guarded_moves system (situation_at (map sit pairs) u).state (situation_at (map sit pairs) u).part (situation_at (map sit pairs) u).scope)) (sit target)
  move_reached pairs u target l c = subst (λ (q : Situation). Contains (map (λ (m : GuardedMove). m.to) (guarded_moves system q.state q.part q.scope)) (sit target)) (sym (place_is pairs u l))
      (of (pair_at pairs u) c (pair_situated labels system states sets parts form scope are known arena (pair_at pairs u)))
    where
      of : (pair : ℕ × ℕ) → Contains (targets (pair_moves states sets parts pair)) target → IsSituated labels system states sets parts form scope are known arena pair.0 (sit pair) (resolved_part parts pair.1) →
          Contains (map (λ (m : GuardedMove). m.to) (guarded_moves system (sit pair).state (sit pair).part (sit pair).scope)) (sit target)
      of pair c i = subst (λ (ms : List GuardedMove). Contains (map (λ (m : GuardedMove). m.to) ms) (sit target)) (sym i.moves)
          (subst (λ (qs : List Situation). Contains qs (sit target)) (sym (map_map form scope (pair_moves states sets parts pair))) (contains_map sit (targets (pair_moves states sets parts pair)) target c))

  reached_is : (roots pairs : Pairs) → AreReached states sets parts roots pairs → IsReached system (map sit roots) (map sit pairs)
  reached_is roots pairs h v high = of (h v within)
    where
      within : v < length pairs
      within = omega (arith, length-map pairs sit)

      of : Contains roots (pair_at pairs v) ⊎ ((u : ℕ) × (u < v) × Contains (targets (pair_moves states sets parts (pair_at pairs u))) (pair_at pairs v)) →
          Contains (map sit roots) (situation_at (map sit pairs) v) ⊎ ((u : ℕ) × (u < v) × Contains (situations_from system (situation_at (map sit pairs) u)) (situation_at (map sit pairs) v))
      of (inl root) = inl (subst (λ (q : Situation). Contains (map sit roots) q) (sym (place_is pairs v within)) (contains_map sit roots (pair_at pairs v) root))
      of (inr w) = inr (
        w.0,
        w.1,
        subst (λ (q : Situation). Contains (situations_from system (situation_at (map sit pairs) w.0)) q)
            (sym (place_is pairs v within)) (move_reached pairs w.0 (pair_at pairs v) (before w.1) w.2),
      )
        where
          before : w.0 < v → w.0 < length pairs
          before l = omega (arith, l, within)

labels_at : (labels : ℕ) (states : List (List Departure)) → HasLabels labels states → AllLabels labels states
labels_at labels states h i k d l = h i [] (within i states l) k d l
  where
    within : (i : ℕ) (states : List (List Departure)) → k < length (get_or states i []) → i < length states
    within i [] l = absurd (omega arith)
    within zero (departures ∷ states) l = omega arith
    within (suc i) (departures ∷ states) l = omega (arith, within i states l)

pub pair_game_is_built : PairGameIsBuilt
pair_game_is_built labels system states sets parts form scope are labelled arena = (
  home_is labels system states sets parts form scope are (labels_at labels states labelled) arena,
  λ roots pairs places game h. (
    rows_are labels system states sets parts form scope are (labels_at labels states labelled) arena pairs pairs game h.built,
    reached_is labels system states sets parts form scope are (labels_at labels states labelled) arena roots pairs h.reached,
  ),
)

pub game_of_parts : (states : List (List Departure)) (sets : List (List Bool)) (parts : List Part) (first : ℕ) (roots : List ℕ) (pairs : Pairs) (vertices : List ℕ) (game : GuardedGame Guard) →
    IsPairGame states sets parts (map (pair_for parts first) roots) pairs vertices game → IsGameOfParts states sets parts first roots pairs vertices game
game_of_parts states sets parts first roots pairs vertices game h labels system form scope are labelled arena = record {
  built = (law.1 (map (pair_for parts first) roots) pairs vertices game h).0;
  rooted = rooted roots vertices h.placed;
  reached = subst (λ (qs : List Situation). IsReached system qs (map (situation_in form scope) pairs)) (all_roots roots) (law.1 (map (pair_for parts first) roots) pairs vertices game h).1;
  one_met = one_met labels sets parts form scope arena pairs h.distinct (homes states sets parts first roots pairs h.reached);
  one_unmet = one_unmet labels sets parts form scope arena pairs h.distinct (homes states sets parts first roots pairs h.reached);
}
  where
    law : ((s k : ℕ) → situation_in form scope (pair_for parts s k) ≡ situation s (form k) (scope k)) ×
        ((roots pairs : List (ℕ × ℕ)) (places : List ℕ) (game : GuardedGame Guard) → (h : IsPairGame states sets parts roots pairs places game) →
        IsBuiltOf Even 0 system (map (situation_in form scope) pairs) game ×
        IsReached system (map (situation_in form scope) roots) (map (situation_in form scope) pairs))
    law = pair_game_is_built labels system states sets parts form scope are labelled arena

    all_roots : (roots : List ℕ) → map (situation_in form scope) (map (pair_for parts first) roots) ≡ map (λ k. situation first (form k) (scope k)) roots
    all_roots [] = refl
    all_roots (k ∷ roots) = ap₂ {C = List Situation} (λ (q : Situation) (qs : List Situation). q ∷ qs) (law.0 first k) (all_roots roots)

    rooted : (roots vertices : List ℕ) → ArePlaced pairs (map (pair_for parts first) roots) vertices → AreRooted first roots form scope (map (situation_in form scope) pairs) vertices
    rooted [] [] h = tt
    rooted [] (v ∷ vertices) h = absurd h
    rooted (k ∷ roots) [] h = absurd h
    rooted (k ∷ roots) (v ∷ vertices) h = ((inside h.0.0, map_at (situation_in form scope) pairs (0, 0) no_situation v h.0.0 ∙ ap (situation_in form scope) h.0.1 ∙ law.0 first k), rooted roots vertices h.1)
      where
        inside : v < length pairs → v < length (map (situation_in form scope) pairs)
        inside l = omega (arith, l, length-map pairs (situation_in form scope))
