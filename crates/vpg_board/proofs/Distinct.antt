-- The kept successors of a vertex are distinct, since a game's edges at a vertex lead to distinct vertices.
use Rattle.std.proofs.Common.{◌≡◌, ◌≢◌, ℕ, zero, suc, ◌<◌, ◌⊎◌, inl, inr, Bool, true, false, List, [], ◌∷◌, length, map, filter, get_or, refl, sym, ap, subst, Some, arith}
use Rattle.std.proofs.lemmas.Bool.{cases_Bool}
use Rattle.vpg_guards.specs.Formula.{Formula}
use Rattle.vpg_guards.specs.declared.tri.Tri.{Tri}
use Rattle.vpg_guards.specs.Known.{kleene}
use Rattle.vpg_game.specs.Guarded.{GuardedEdge}
use Rattle.vpg_game.specs.Game.{NamedVertex, Lacks, AreEdges, AreVertices, unnamed}
use Rattle.vpg_hope.specs.Arena.{vertex_at}
use Rattle.vpg_hope.specs.Hope.{keeps_in_hope}
use Rattle.vpg_sides.specs.Players.{opponent}
use Rattle.vpg_sides.specs.declared.which.Which.{Which}
use Rattle.vpg_sides.specs.declared.which.Which.TheVariants.{Hopeful, Dual}
use Rattle.vpg_measure.specs.Orders.{OrderView, IsOrder, order_arena}
use Rattle.vpg_measure.specs.TwoGames.{arena_for}

abbrev pub Apart : List ℕ → Type 0
Apart xs = (i j : ℕ) → i < j → j < length xs → get_or xs i 0 ≢ get_or xs j 0

apart_first : (x : ℕ) (xs : List ℕ) → ((j : ℕ) → j < length xs → x ≢ get_or xs j 0) → Apart xs → Apart (x ∷ xs)
apart_first x xs first rest i zero less inside = absurd (omega arith)
apart_first x xs first rest zero (suc j) less inside = first j (omega arith)
apart_first x xs first rest (suc i) (suc j) less inside = rest i j (omega arith) (omega arith)

lacks_at : (ids : List ℕ) (id : ℕ) → Lacks ids id → (i : ℕ) → i < length ids → id ≢ get_or ids i 0
lacks_at [] id lacks i inside = absurd (omega arith)
lacks_at (x ∷ ids) id lacks zero inside = λ e. lacks 0 (ap Some (sym e))
lacks_at (x ∷ ids) id lacks (suc i) inside = lacks_at ids id (λ k q. lacks (suc k) q) i (omega arith)

abbrev E : Type 0
E = GuardedEdge Formula

abbrev kept_by : (Formula → Bool) → List E → List ℕ
kept_by test edges = map (λ edge. edge.to) (filter (λ edge. test edge.guard) edges)

kept-true : (test : Formula → Bool) (edge : E) (edges : List E) → test edge.guard ≡ true → kept_by test (edge ∷ edges) ≡ edge.to ∷ kept_by test edges
kept-true test edge edges e = rw e refl

kept-false : (test : Formula → Bool) (edge : E) (edges : List E) → test edge.guard ≡ false → kept_by test (edge ∷ edges) ≡ kept_by test edges
kept-false test edge edges e = rw e refl

-- what holds of all targets holds of those kept
kept_all : (test : Formula → Bool) (P : ℕ → Type 0) (edges : List E) → ((i : ℕ) → i < length (map (λ (f : E). f.to) edges) → P (get_or (map (λ (f : E). f.to) edges) i 0))
    → (j : ℕ) → j < length (kept_by test edges) → P (get_or (kept_by test edges) j 0)
kept_all test P [] each = λ j inside. absurd (omega arith)
kept_all test P (edge ∷ edges) each = decide (cases_Bool (test edge.guard)) (kept_all test P edges (λ i l. each (suc i) (omega arith)))
  where
    decide : (test edge.guard ≡ true) ⊎ (test edge.guard ≡ false) → ((j : ℕ) → j < length (kept_by test edges) → P (get_or (kept_by test edges) j 0))
        → (j : ℕ) → j < length (kept_by test (edge ∷ edges)) → P (get_or (kept_by test (edge ∷ edges)) j 0)
    decide (inl t) rest = subst (λ (l : List ℕ). (j : ℕ) → j < length l → P (get_or l j 0)) (sym (kept-true test edge edges t)) both
      where
        both : (j : ℕ) → j < length (edge.to ∷ kept_by test edges) → P (get_or (edge.to ∷ kept_by test edges) j 0)
        both zero inside = each 0 (omega arith)
        both (suc j) inside = rest j (omega arith)
    decide (inr f) rest = subst (λ (l : List ℕ). (j : ℕ) → j < length l → P (get_or l j 0)) (sym (kept-false test edge edges f)) rest

edges_apart : (test : Formula → Bool) (vertices features : ℕ) (edges : List E) → AreEdges vertices features edges → Apart (kept_by test edges)
edges_apart test vertices features [] are = λ i j less inside. absurd (omega arith)
edges_apart test vertices features (edge ∷ edges) are = decide (cases_Bool (test edge.guard)) (edges_apart test vertices features edges are.3)
  where
    decide : (test edge.guard ≡ true) ⊎ (test edge.guard ≡ false) → Apart (kept_by test edges) → Apart (kept_by test (edge ∷ edges))
    decide (inl t) rest = subst Apart (sym (kept-true test edge edges t))
        (apart_first edge.to (kept_by test edges) (kept_all test (λ w. edge.to ≢ w) edges (lacks_at (map (λ f. f.to) edges) edge.to are.2)) rest)
    decide (inr f) rest = subst Apart (sym (kept-false test edge edges f)) rest

vertices_apart : (value : Formula → Tri) (vertices features : ℕ) (vs : List NamedVertex) → AreVertices vertices features vs → (which : Which) (v : ℕ) → Apart (vertex_at (arena_for value which (map unnamed vs)) v).successors
vertices_apart value vertices features [] are Hopeful v = λ i j less inside. absurd (omega arith)
vertices_apart value vertices features [] are Dual v = λ i j less inside. absurd (omega arith)
vertices_apart value vertices features (x ∷ vs) are Hopeful zero = edges_apart (λ guard. keeps_in_hope x.owner (value guard)) vertices features x.edges are.2
vertices_apart value vertices features (x ∷ vs) are Dual zero = edges_apart (λ guard. keeps_in_hope (opponent x.owner) (value guard)) vertices features x.edges are.2
vertices_apart value vertices features (x ∷ vs) are Hopeful (suc v) = vertices_apart value vertices features vs are.3 Hopeful v
vertices_apart value vertices features (x ∷ vs) are Dual (suc v) = vertices_apart value vertices features vs are.3 Dual v

pub successors_apart : (order : OrderView) → IsOrder order → (which : Which) (v : ℕ) → Apart (vertex_at (order_arena which order) v).successors
successors_apart order is which v = vertices_apart (kleene order.known) (length order.game.vertices) order.game.features order.game.vertices is.game.each which v
