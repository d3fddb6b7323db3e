-- The edges whose guard names a feature lead from vertices of the game to such.
use Rattle.std.proofs.Common.{◌≡◌, ℕ, zero, suc, ◌<◌, ◌≤◌, Bool, true, false, List, [], ◌∷◌, length, get_or, All, sym, ap, subst, arith}
use Rattle.std.specs.Prelude.{if◌then◌else◌, flat_map}
use Rattle.std.specs.List.{AllByRecursion}
use Rattle.std.proofs.lemmas.List.{get_or_default}
use Rattle.vpg_diagram.proofs.Lists.{All-append}
use Rattle.vpg_guards.specs.Formula.{Formula}
use Rattle.vpg_game.specs.Guarded.{GuardedEdge}
use Rattle.vpg_game.specs.Game.{NamedGame, IsGame, AreEdges, graph_of, no_vertex, vertex_in}
use Rattle.vpg_game.proofs.Graphs.{graph_at}
use Rattle.vpg_game.proofs.Written.{edges_ok}
use Rattle.vpg_looks.specs.declared.uses.Used.{Used}
use Rattle.vpg_looks.specs.Uses.{IsInside, is_named, use_at, uses_below}

all_of : {X : Type 0} (P : X → Type 0) (xs : List X) → AllByRecursion P xs → All P xs
all_of P [] all k d l = absurd (omega (arith, l))
all_of P (x ∷ xs) all zero d l = all.0
all_of P (x ∷ xs) all (suc k) d l = all_of P xs all.1 k d (omega (arith, l))

module _ (count features feature v : ℕ) (inside : v < count) where
  one_inside : (b : Bool) (to : ℕ) → to < count →
      AllByRecursion (IsInside count) (if b then record { vertex = v; to = to } ∷ [] else [])
  one_inside true to less = ((inside, less), tt)
  one_inside false to less = tt

  edges_inside : (es : List (GuardedEdge Formula)) → AreEdges count features es →
      AllByRecursion (IsInside count) (flat_map (use_at feature v) es)
  edges_inside [] are = tt
  edges_inside (e ∷ es) are =
      All-append (IsInside count) (use_at feature v e) (flat_map (use_at feature v) es)
      (one_inside (is_named feature e.guard) e.to are.0) (edges_inside es are.3)

module _ (game : NamedGame) (is : IsGame game) (feature : ℕ) where
  below_inside : (n : ℕ) → n ≤ length game.vertices →
      AllByRecursion (IsInside (length game.vertices)) (uses_below (graph_of game) feature n)
  below_inside zero most = tt
  below_inside (suc n) most =
      let less : n < length game.vertices = omega (arith, most) in
      All-append (IsInside (length game.vertices)) (uses_below (graph_of game) feature n)
      (flat_map (use_at feature n) (vertex_in (graph_of game) n).edges)
      (below_inside n (omega (arith, most)))
      (edges_inside (length game.vertices) game.features feature n less (vertex_in (graph_of game) n).edges
      (subst (AreEdges (length game.vertices) game.features) (sym (ap (λ x. x.edges) (graph_at game.vertices n)))
      (edges_ok (length game.vertices) game.features game.vertices n (get_or game.vertices n no_vertex) is.each less
      (get_or_default game.vertices n no_vertex (get_or game.vertices n no_vertex) less))))

  pub used_inside : (n : ℕ) (listed : List Used) → n ≤ length game.vertices →
      listed ≡ uses_below (graph_of game) feature n → All (IsInside (length game.vertices)) listed
  used_inside n listed most same =
      subst (All (IsInside (length game.vertices))) (sym same)
      (all_of (IsInside (length game.vertices)) (uses_below (graph_of game) feature n) (below_inside n most))
