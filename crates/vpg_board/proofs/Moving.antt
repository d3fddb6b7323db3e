-- A harvest on or above the lift of an order's tables has risen, or is settled.
use Rattle.std.proofs.Common.{◌≡◌, ℕ, suc, ◌+◌, ◌<◌, ◌≤◌, List, [], ◌∷◌, refl, sym, ap, ap₂, subst, inl, inr, arith}
use Rattle.std.proofs.Math.Nat.{eq-or-lt_of_le}
use Rattle.std.proofs.lemmas.List.Sums.{sum_by-cons}
use Rattle.std.specs.Prelude.{◌⊎◌, slice_index, sum}
use Rattle.vpg_guards.specs.Known.{kleene}
use Rattle.vpg_game.specs.Game.{graph_of}
use Rattle.vpg_hope.specs.Arena.{vertex_at}
use Rattle.vpg_sides.specs.declared.which.Which.{Which}
use Rattle.vpg_sides.specs.declared.which.Which.TheVariants.{Hopeful, Dual}
use Rattle.vpg_measure.specs.Lifts.{IsTableOf, IsProgressTable, IsBelowTable, lift_of}
use Rattle.vpg_measure.specs.Orders.{OrderView, HarvestView, IsOrder, IsSameOrder, IsHarvest, IsSettledHarvest, order_table, harvest_table, order_levels, order_arena}
use Rattle.vpg_measure.specs.TwoGames.{levels_for, arena_for}
use Rattle.vpg_measure.proofs.Rounds.{progress_from}
use Rattle.vpg_measure.proofs.OrderLemmas.{arena_count}
use Rattle.vpg_board.specs.Places.{vertices}

-- a table that is below another has a smaller sum, or is the same
rises_or_same : (a b : List ℕ) → IsBelowTable a b → (sum a < sum b) ⊎ (a ≡ b)
rises_or_same [] [] below = inr refl
rises_or_same [] (y ∷ b) below = absurd (omega (arith, below.0))
rises_or_same (x ∷ a) [] below = absurd (omega (arith, below.0))
rises_or_same (x ∷ a) (y ∷ b) below =
    go (eq-or-lt_of_le first) (rises_or_same a b (omega (arith, below.0), λ v l. below.1 (suc v) (omega (arith, l))))
  where
    first : x ≤ y
    first = below.1 0 (omega arith)

    go : (x ≡ y) ⊎ (x < y) → (sum a < sum b) ⊎ (a ≡ b) → (sum (x ∷ a) < sum (y ∷ b)) ⊎ (x ∷ a ≡ y ∷ b)
    go one (inl less) = inl (omega (arith, first, less, sum_by-cons (λ n. n) x a, sum_by-cons (λ n. n) y b))
    go (inl same_first) (inr same) = inr (ap₂ (λ (n : ℕ) (l : List ℕ). n ∷ l) same_first same)
    go (inr less_first) (inr same) = inl (omega (arith, less_first, ap sum same, sum_by-cons (λ n. n) x a, sum_by-cons (λ n. n) y b))

-- the order's table is below the harvest's
pub above_same : (order : OrderView) (harvest : HarvestView) → IsSameOrder harvest.order order → IsHarvest harvest → (which : Which) → IsBelowTable (order_table which order) (harvest_table which harvest)
above_same order harvest same is which =
    subst (λ t. IsBelowTable t (harvest_table which harvest)) (at which) (is.above which)
  where
    at : (w : Which) → order_table w harvest.order ≡ order_table w order
    at Hopeful = same.hopeful
    at Dual = same.dual

module _ (order : OrderView) (harvest : HarvestView) (is : IsOrder order) (same : IsSameOrder harvest.order order)
    (above : (which : Which) → IsBelowTable (order_table which order) (harvest_table which harvest))
    (lifted : (which : Which) (v : ℕ) → v < vertices order → lift_of (order_levels which order) (order_table which order) (vertex_at (order_arena which order) v) ≤ slice_index (harvest_table which harvest) v) where
  -- a table that did not rise is settled
  stayed : (which : Which) → order_table which order ≡ harvest_table which harvest → IsProgressTable (order_levels which harvest.order) (order_arena which harvest.order) (harvest_table which harvest)
  stayed which e =
      subst (λ g. IsProgressTable (levels_for which (graph_of g)) (arena_for (kleene harvest.order.known) which (graph_of g)) (harvest_table which harvest)) (sym same.game)
      (subst (λ k. IsProgressTable (levels_for which (graph_of order.game)) (arena_for (kleene k) which (graph_of order.game)) (harvest_table which harvest)) (sym same.known)
      (progress_from (order_levels which order) (order_arena which order) (harvest_table which harvest)
      (subst (λ t. IsTableOf (order_levels which order) (order_arena which order) t) e (is.below which).is_table)
      (λ v less. subst (λ t. lift_of (order_levels which order) t (vertex_at (order_arena which order) v) ≤ slice_index (harvest_table which harvest) v) e
      (lifted which v (subst (λ n. v < n) (arena_count order.known which order.game) less)))))

  pub moved : ¬ IsSettledHarvest harvest → sum order.hopeful + sum order.dual < sum harvest.hopeful + sum harvest.dual
  moved fails = go (rises_or_same order.hopeful harvest.hopeful (above Hopeful)) (rises_or_same order.dual harvest.dual (above Dual))
    where
      go : (sum order.hopeful < sum harvest.hopeful) ⊎ (order.hopeful ≡ harvest.hopeful) → (sum order.dual < sum harvest.dual) ⊎ (order.dual ≡ harvest.dual) →
          sum order.hopeful + sum order.dual < sum harvest.hopeful + sum harvest.dual
      go (inl first) (inl second) = omega (arith, first, second)
      go (inl first) (inr second) = omega (arith, first, ap sum second)
      go (inr first) (inl second) = omega (arith, ap sum first, second)
      go (inr first) (inr second) = absurd (fails (λ which. at which))
        where
          at : (w : Which) → IsProgressTable (order_levels w harvest.order) (order_arena w harvest.order) (harvest_table w harvest)
          at Hopeful = stayed Hopeful first
          at Dual = stayed Dual second
