-- An order's games keep no more edges than its game has.
use Rattle.std.proofs.Common.{◌≡◌, ◌<◌, ◌≤◌, ◌^◌, Bool, List, [], ◌∷◌, length, map, filter, ap, subst, arith}
use Rattle.std.proofs.lemmas.List.{length-map}
use Rattle.std.proofs.lemmas.List.Sums.{length-filter, count_by-le-length}
use Rattle.vpg_guards.specs.Formula.{Formula}
use Rattle.vpg_guards.specs.declared.tri.Tri.{Tri}
use Rattle.vpg_guards.specs.Known.{kleene}
use Rattle.vpg_game.specs.Guarded.{GuardedEdge}
use Rattle.vpg_game.specs.Game.{NamedVertex, edges_in, unnamed}
use Rattle.vpg_sides.specs.Players.{opponent}
use Rattle.vpg_hope.specs.Hope.{keeps_in_hope}
use Rattle.vpg_sides.specs.declared.which.Which.{Which}
use Rattle.vpg_sides.specs.declared.which.Which.TheVariants.{Hopeful, Dual}
use Rattle.vpg_measure.specs.Orders.{OrderView, IsOrder, order_arena}
use Rattle.vpg_measure.specs.TwoGames.{arena_for}
use Rattle.vpg_hope.specs.Games.{Game}
use Rattle.vpg_board.specs.Predecessors.{PredecessorsView, ArePredecessors, predecessors_in}
use Rattle.vpg_board.specs.Chains.{edges_kept}

abbrev E : Type 0
E = GuardedEdge Formula

kept_few : (test : E → Bool) (edges : List E) → length (map (λ edge. edge.to) (filter test edges)) ≤ length edges
kept_few test edges =
    let kept = length-map (filter test edges) (λ (edge : E). edge.to) in
    omega (arith, kept, length-filter test edges, count_by-le-length test edges)

kept_count : (value : Formula → Tri) (which : Which) (vs : List NamedVertex) →
    edges_kept (arena_for value which (map unnamed vs)) ≤ edges_in vs
kept_count value Hopeful [] = omega arith
kept_count value Dual [] = omega arith
kept_count value Hopeful (x ∷ vs) =
    let few = kept_few (λ (edge : E). keeps_in_hope x.owner (value edge.guard)) x.edges in
    omega (arith, few, kept_count value Hopeful vs)
kept_count value Dual (x ∷ vs) =
    let few = kept_few (λ (edge : E). keeps_in_hope (opponent x.owner) (value edge.guard)) x.edges in
    omega (arith, few, kept_count value Dual vs)

pub order_edges : (order : OrderView) (which : Which) (game : Game) → IsOrder order →
    game ≡ order_arena which order → edges_kept game < 2 ^ 32
order_edges order which game is same =
    let count = kept_count (kleene order.known) which order.game.vertices in
    omega (arith, ap edges_kept same, count, is.game.few_edges)

-- both games, from each
pub both_listed : (order : OrderView) (hopeful dual : Game) (lists : PredecessorsView) → hopeful ≡ order_arena Hopeful order → dual ≡ order_arena Dual order → ArePredecessors hopeful lists.hopeful → ArePredecessors dual lists.dual
    → (which : Which) → ArePredecessors (order_arena which order) (predecessors_in which lists)
both_listed order hopeful dual lists is is' here there Hopeful = subst (λ (game : Game). ArePredecessors game lists.hopeful) is here
both_listed order hopeful dual lists is is' here there Dual = subst (λ (game : Game). ArePredecessors game lists.dual) is' there
