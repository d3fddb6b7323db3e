-- A verdict of a page has moves that win in every product that is left: parity games are determined.
use Rattle.std.proofs.Common.{◌≡◌, ◌≢◌, ℕ, ◌<◌, List, length, slice_index, sym, subst}
use Rattle.vpg_guards.specs.declared.tri.Tri.{Tri}
use Rattle.vpg_guards.specs.Formula.{Formula}
use Rattle.vpg_guards.specs.Known.{kleene}
use Rattle.vpg_game.specs.Game.{graph_of}
use Rattle.vpg_game.proofs.Graphs.{games_have_graphs, same_count as graph_count}
use Rattle.vpg_partial.specs.TableLaws.{IsKnownTable}
use Rattle.vpg_sides.specs.declared.which.Which.{Which}
use Rattle.vpg_measure.specs.Orders.{OrderView, IsOrder, order_table, other_table}
use Rattle.vpg_measure.specs.TwoGames.{top_for}
use Rattle.vpg_determined.specs.ProductLaws.{HasWinningMoves}
use Rattle.vpg_determined.proofs.Products.{tops_have_moves}
use Rattle.vpg_why.specs.Explained.{choices}
use Rattle.vpg_why.specs.Moves.{AreFound, NoneWinsUnder}
use Rattle.vpg_why.specs.declared.winning.Moves.{Moves}
use Rattle.vpg_why.specs.declared.winning.Moves.TheVariants.{Nothing}
use Rattle.vpg_why.proofs.Monotone.{top_stays}
use Rattle.vpg_why.proofs.Ordered.{top}

module _ (order : OrderView) (is : IsOrder order) (mover : Which) (vertex : ℕ)
    (inside : vertex < length order.game.vertices)
    (high : slice_index (order_table (other_table mover) order) vertex ≡ top_for (other_table mover) (graph_of order.game)) where
  moves : (known : List Tri) → IsKnownTable order.diagram.lines (choices order.decisions) known →
      HasWinningMoves (kleene known) mover (graph_of order.game) vertex
  moves known is_known = tops_have_moves Formula (kleene known) (graph_of order.game)
      (games_have_graphs order.game is.game).closed vertex
      (subst (λ n. vertex < n) (sym (graph_count order.game)) inside) mover
      (top_stays order.diagram.lines (choices order.decisions) (choices order.decisions) order.known known
      (graph_of order.game) (other_table mover) vertex (λ c k. k) is.known is_known
      (top order is (other_table mover) vertex inside high))

  pub never_nothing : (found : Moves) →
      AreFound (graph_of order.game) order.diagram.lines (choices order.decisions) mover vertex found → found ≢ Nothing
  never_nothing found are e =
      none (subst (AreFound (graph_of order.game) order.diagram.lines (choices order.decisions) mover vertex) e are)
    where
      none : NoneWinsUnder (graph_of order.game) order.diagram.lines (choices order.decisions) mover vertex → ⊥
      none n = n.2 (moves n.0 n.1).strategy (moves n.0 n.1).cautious
