-- A harvest's tables, and what a round of lifts makes of an order's.
use Rattle.std.proofs.Common.{◌≡◌, List, ℕ, sym, subst}
use Rattle.vpg_sides.specs.declared.which.Which.{Which}
use Rattle.vpg_sides.specs.declared.which.Which.TheVariants.{Hopeful, Dual}
use Rattle.vpg_measure.specs.Lifts.{IsBelowTable, IsProgressTable, after_rounds}
use Rattle.vpg_measure.specs.Orders.{OrderView, HarvestView, IsSameOrder, IsSettledHarvest, order_levels, order_arena, order_table, harvest_table}

-- a progress table of one order is one of another of the same page
progress_moves : (one other : OrderView) → one.game ≡ other.game → one.known ≡ other.known → (which : Which) (table : List ℕ) →
    IsProgressTable (order_levels which one) (order_arena which one) table → IsProgressTable (order_levels which other) (order_arena which other) table
progress_moves one other game known which table p =
    coe 0 1 (i. IsProgressTable (order_levels which (record one { game = game i; known = known i })) (order_arena which (record one { game = game i; known = known i })) table) p

module _ (order : OrderView) (harvest : HarvestView) where
  abbrev pub round : Which → List ℕ
  round which = after_rounds (order_levels which order) (order_arena which order) 1 (order_table which order)

  pub above_rounds : (hopeful dual : List ℕ) → harvest.hopeful ≡ hopeful → harvest.dual ≡ dual →
      IsBelowTable (round Hopeful) hopeful → IsBelowTable (round Dual) dual → (which : Which) → IsBelowTable (round which) (harvest_table which harvest)
  above_rounds hopeful dual hopeful_is dual_is h d = at
    where
      at : (which : Which) → IsBelowTable (round which) (harvest_table which harvest)
      at Hopeful = subst (λ table. IsBelowTable (round Hopeful) table) (sym hopeful_is) h
      at Dual = subst (λ table. IsBelowTable (round Dual) table) (sym dual_is) d

  pub settles : IsSameOrder harvest.order order → (hopeful dual : List ℕ) → harvest.hopeful ≡ hopeful → harvest.dual ≡ dual →
      IsProgressTable (order_levels Hopeful order) (order_arena Hopeful order) hopeful → IsProgressTable (order_levels Dual order) (order_arena Dual order) dual →
      IsSettledHarvest harvest
  settles same hopeful dual hopeful_is dual_is h d = at
    where
      moved : (which : Which) (table : List ℕ) → IsProgressTable (order_levels which order) (order_arena which order) table →
          IsProgressTable (order_levels which harvest.order) (order_arena which harvest.order) table
      moved = progress_moves order harvest.order (sym same.game) (sym same.known)

      at : (which : Which) → IsProgressTable (order_levels which harvest.order) (order_arena which harvest.order) (harvest_table which harvest)
      at Hopeful = moved Hopeful harvest.hopeful (subst (λ table. IsProgressTable (order_levels Hopeful order) (order_arena Hopeful order) table) (sym hopeful_is) h)
      at Dual = moved Dual harvest.dual (subst (λ table. IsProgressTable (order_levels Dual order) (order_arena Dual order) table) (sym dual_is) d)
