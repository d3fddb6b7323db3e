-- Sweeps of an order, one after another.
use Rattle.std.proofs.Common.{◌≡◌, ℕ, ◌+◌, ◌<◌, ◌≤◌, List, ◌⊎◌, inl, inr, sym, ap, ◌∙◌, subst, arith}
use Rattle.std.specs.Prelude.{Option, Some, None, IfSome, sum}
use Rattle.vpg_guards.specs.Known.{kleene}
use Rattle.vpg_game.specs.Game.{graph_of}
use Rattle.vpg_sides.specs.declared.which.Which.{Which}
use Rattle.vpg_sides.specs.declared.which.Which.TheVariants.{Hopeful, Dual}
use Rattle.vpg_measure.specs.Lifts.{IsProgressTable, IsBelowTable, after_rounds}
use Rattle.vpg_measure.specs.Orders.{OrderView, HarvestView, IsOrder, IsHarvest, IsSameOrder, IsOrderAgain, IsSettledOrder, IsSettledHarvest, order_table, harvest_table, order_levels, order_arena}
use Rattle.vpg_measure.specs.TwoGames.{levels_for, arena_for}
use Rattle.vpg_measure.proofs.Rounds.{after_above, below_trans}
use Rattle.vpg_settle.specs.Sweeping.{IsOfPage, IsSweptOrder, IsSweptTo, IsLeft, Reaches}
use Rattle.vpg_settle.proofs.Sweeps.{sums_rise, rounds_settle_or_move}

pub same_page : (one other : OrderView) → IsSameOrder one other → IsOfPage one other
same_page one other same = record { game = same.game; diagram = same.diagram; decisions = same.decisions; known = same.known }

-- a progress table of one order of a page is one of the other
pub progress_moves : (one other : OrderView) → IsOfPage one other → (which : Which) (table : List ℕ) → IsProgressTable (order_levels which one) (order_arena which one) table →
    IsProgressTable (order_levels which other) (order_arena which other) table
progress_moves one other page which table p =
    coe 0 1 (i. IsProgressTable (levels_for which (graph_of (page.game i))) (arena_for (kleene (page.known i)) which (graph_of (page.game i))) table) p

pub page_back : (one other : OrderView) → IsOfPage one other → IsOfPage other one
page_back one other page = record { game = sym page.game; diagram = sym page.diagram; decisions = sym page.decisions; known = sym page.known }

-- ---- sweeps alone

module _ (order : OrderView) (harvest : HarvestView) (sweeps : ℕ) (is_order : IsOrder order) (lawful : IsHarvest harvest) (same : IsSameOrder harvest.order order)
    (tables : (which : Which) → harvest_table which harvest ≡ after_rounds (order_levels which order) (order_arena which order) sweeps (order_table which order)) where
  above : (which : Which) → IsBelowTable (order_table which order) (harvest_table which harvest)
  above which = subst (λ (t : List ℕ). IsBelowTable (order_table which order) t) (sym (tables which)) (after_above (order_levels which order) (order_arena which order) sweeps (order_table which order))

  abbrev IsDone : Which → Type 0
  IsDone which = IsProgressTable (order_levels which harvest.order) (order_arena which harvest.order) (harvest_table which harvest)

  -- one table is settled, or it moved
  moves : (which : Which) → IsDone which ⊎ (sum (order_table which order) + sweeps ≤ sum (harvest_table which harvest))
  moves which =
      go (rounds_settle_or_move (order_levels which order) (order_arena which order) sweeps (order_table which order) (is_order.below which).is_table)
    where
      go : IsProgressTable (order_levels which order) (order_arena which order) (after_rounds (order_levels which order) (order_arena which order) sweeps (order_table which order)) ⊎
          (sum (order_table which order) + sweeps ≤ sum (after_rounds (order_levels which order) (order_arena which order) sweeps (order_table which order))) →
          IsDone which ⊎ (sum (order_table which order) + sweeps ≤ sum (harvest_table which harvest))
      go (inl progress) =
          inl (progress_moves order harvest.order (page_back harvest.order order (same_page harvest.order order same)) which (harvest_table which harvest)
          (subst (λ (t : List ℕ). IsProgressTable (order_levels which order) (order_arena which order) t) (sym (tables which)) progress))
      go (inr moved) = inr (subst (λ (t : List ℕ). sum (order_table which order) + sweeps ≤ sum t) (sym (tables which)) moved)

  both : IsDone Hopeful → IsDone Dual → (which : Which) → IsDone which
  both first second Hopeful = first
  both first second Dual = second

  moved_enough : IsDone Hopeful ⊎ (sum order.hopeful + sweeps ≤ sum harvest.hopeful) → IsDone Dual ⊎ (sum order.dual + sweeps ≤ sum harvest.dual) →
      ¬ IsSettledHarvest harvest → sum order.hopeful + sum order.dual + sweeps ≤ sum harvest.hopeful + sum harvest.dual
  moved_enough (inl first) (inl second) unsettled = absurd (unsettled (both first second))
  moved_enough (inr moved) second unsettled = omega (arith, moved, sums_rise order.dual harvest.dual (above Dual))
  moved_enough (inl first) (inr moved) unsettled = omega (arith, moved, sums_rise order.hopeful harvest.hopeful (above Hopeful))

  pub rounds_sweep : IsSweptOrder order sweeps harvest
  rounds_sweep = record { lawful = lawful; page = same_page harvest.order order same; above = above; moved = moved_enough (moves Hopeful) (moves Dual) }

-- ---- one sweep

-- it is on or above the order's tables, and where it isn't settled its sum has risen
pub one_sweeps : (order : OrderView) (harvest : HarvestView) → IsSameOrder harvest.order order → IsHarvest harvest →
    ((which : Which) → IsBelowTable (order_table which order) (harvest_table which harvest)) →
    (¬ IsSettledHarvest harvest → sum order.hopeful + sum order.dual < sum harvest.hopeful + sum harvest.dual) → IsSweptOrder order 1 harvest
one_sweeps order harvest same lawful above rises = record { lawful = lawful; page = same_page harvest.order order same; above = above; moved = λ u. let r = rises u in omega arith }

-- ---- one after another

-- the tables of the order that a harvest came of, seen from its own order
tables_stay : (order : OrderView) (harvest : HarvestView) → IsHarvest harvest → IsSameOrder harvest.order order → (which : Which) → IsBelowTable (order_table which order) (harvest_table which harvest)
tables_stay order harvest lawful same Hopeful = subst (λ (t : List ℕ). IsBelowTable t harvest.hopeful) same.hopeful (lawful.above Hopeful)
tables_stay order harvest lawful same Dual = subst (λ (t : List ℕ). IsBelowTable t harvest.dual) same.dual (lawful.above Dual)

-- a settled harvest needs no sweep
pub settled_sweeps : (order : OrderView) (harvest : HarvestView) (sweeps : ℕ) → IsHarvest harvest → IsSameOrder harvest.order order → IsSettledHarvest harvest → IsSweptOrder order sweeps harvest
settled_sweeps order harvest sweeps lawful same settled = record { lawful = lawful; page = same_page harvest.order order same; above = tables_stay order harvest lawful same; moved = λ unsettled. absurd (unsettled settled) }

-- a settled order, as it stands
module _ (order : OrderView) (harvest : HarvestView) (same : IsSameOrder harvest.order order) (tables : (which : Which) → harvest_table which harvest ≡ order_table which order) where
  pub stands : IsSettledOrder order → IsSettledHarvest harvest
  stands settled which =
      progress_moves order harvest.order (page_back harvest.order order (same_page harvest.order order same)) which (harvest_table which harvest)
      (subst (λ (t : List ℕ). IsProgressTable (order_levels which order) (order_arena which order) t) (sym (tables which)) (settled which))

  pub stands_left : IsLeft order harvest
  stands_left = record { page = same_page harvest.order order same; same = tables }

-- nor does one that sweeps settled need more of them
pub settled_early : (order : OrderView) (harvest : HarvestView) (done sweeps : ℕ) → IsSweptOrder order done harvest → IsSettledHarvest harvest → IsSweptOrder order sweeps harvest
settled_early order harvest done sweeps swept settled = record { lawful = swept.lawful; page = swept.page; above = swept.above; moved = λ unsettled. absurd (unsettled settled) }

module _ (order again : OrderView) (first second : HarvestView) (more : ℕ) (is_again : IsOrderAgain again first) (further : IsSweptOrder again more second) where
  again_table : (which : Which) → order_table which again ≡ harvest_table which first
  again_table Hopeful = is_again.hopeful
  again_table Dual = is_again.dual

  -- the first harvest moved by so much, and its tables are swept on
  moved_then : (done : ℕ) → IsOfPage first.order order → ((which : Which) → IsBelowTable (order_table which order) (harvest_table which first)) →
      sum order.hopeful + sum order.dual + done ≤ sum first.hopeful + sum first.dual → IsSweptOrder order (done + more) second
  moved_then done page above moved = record {
    lawful = further.lawful;
    page = record {
      game = further.page.game ∙ is_again.game ∙ page.game;
      diagram = further.page.diagram ∙ is_again.diagram ∙ page.diagram;
      decisions = further.page.decisions ∙ is_again.decisions ∙ page.decisions;
      known = further.page.known ∙ is_again.known ∙ page.known;
    };
    above = λ which. below_trans (order_table which order) (harvest_table which first) (harvest_table which second) (above which)
        (subst (λ (t : List ℕ). IsBelowTable t (harvest_table which second)) (again_table which) (further.above which));
    moved = λ unsettled. omega (arith, moved, further.moved unsettled, ap sum is_again.hopeful, ap sum is_again.dual);
  }

  -- after sweeps that didn't settle it
  pub swept_then : (done : ℕ) → IsSweptOrder order done first → (¬ IsSettledHarvest first) → IsSweptOrder order (done + more) second
  swept_then done swept unsettled = moved_then done swept.page swept.above (swept.moved unsettled)

  -- after any raise
  pub raised_then : IsHarvest first → IsSameOrder first.order order → IsSweptOrder order more second
  raised_then lawful same =
      subst (λ (n : ℕ). IsSweptOrder order n second) (omega arith)
      (moved_then 0 (same_page first.order order same) (tables_stay order first lawful same)
      (omega (arith, sums_rise order.hopeful first.hopeful (tables_stay order first lawful same Hopeful), sums_rise order.dual first.dual (tables_stay order first lawful same Dual))))

-- ---- up to a goal

-- it moved by no less than it did
pub swept_less : (order : OrderView) (harvest : HarvestView) (sweeps : ℕ) → IsSweptOrder order sweeps harvest → IsSweptOrder order 0 harvest
swept_less order harvest sweeps swept =
    record { lawful = swept.lawful; page = swept.page; above = swept.above; moved = λ unsettled. omega (arith, swept.moved unsettled) }

-- all its sweeps were made
pub swept_all : (order : OrderView) (harvest : HarvestView) (sweeps : ℕ) (goal : Option ℕ) → IsSweptOrder order sweeps harvest → IsSweptTo order sweeps goal harvest
swept_all order harvest sweeps goal swept = record { kept = swept_less order harvest sweeps swept; enough = λ unsettled. inr (swept.moved unsettled) }

-- what reached a goal that stands so far above the order's tables exceeds them by as many
enough_moved : (goal : Option ℕ) (harvest : HarvestView) (from sweeps before : ℕ) → IfSome goal (λ g. from + sweeps ≤ g) → from ≤ before →
    Reaches goal harvest ⊎ (before + sweeps ≤ sum harvest.hopeful + sum harvest.dual) → from + sweeps ≤ sum harvest.hopeful + sum harvest.dual
enough_moved None harvest from sweeps before far less (inl reached) = absurd reached
enough_moved (Some g) harvest from sweeps before far less (inl reached) = omega (arith, far, reached)
enough_moved goal harvest from sweeps before far less (inr moved) = omega (arith, less, moved)

pub swept_to : (order : OrderView) (harvest : HarvestView) (sweeps : ℕ) (goal : Option ℕ) → IfSome goal (λ g. sum order.hopeful + sum order.dual + sweeps ≤ g) →
    IsSweptTo order sweeps goal harvest → IsSweptOrder order sweeps harvest
swept_to order harvest sweeps goal far swept = record {
  lawful = swept.kept.lawful;
  page = swept.kept.page;
  above = swept.kept.above;
  moved = λ unsettled. enough_moved goal harvest (sum order.hopeful + sum order.dual) sweeps (sum order.hopeful + sum order.dual) far (omega arith) (swept.enough unsettled);
}

-- the same behind a raise
pub raised_to : (order again : OrderView) (first second : HarvestView) (sweeps : ℕ) (goal : Option ℕ) →
    IsOrderAgain again first → IsSweptTo again sweeps goal second → IsHarvest first → IsSameOrder first.order order → IsSweptTo order sweeps goal second
raised_to order again first second sweeps goal is_again swept lawful same = record {
  kept = raised_then order again first second 0 is_again swept.kept lawful same;
  enough = λ unsettled. further (swept.enough unsettled);
}
  where
    further : Reaches goal second ⊎ (sum again.hopeful + sum again.dual + sweeps ≤ sum second.hopeful + sum second.dual) →
        Reaches goal second ⊎ (sum order.hopeful + sum order.dual + sweeps ≤ sum second.hopeful + sum second.dual)
    further (inl reached) = inl reached
    further (inr moved) = inr (omega (
      arith,
      moved,
      ap sum is_again.hopeful,
      ap sum is_again.dual,
      sums_rise order.hopeful first.hopeful (tables_stay order first lawful same Hopeful),
      sums_rise order.dual first.dual (tables_stay order first lawful same Dual),
    ))

-- and behind a sweep that did not settle it
pub swept_first : (order again : OrderView) (first harvest : HarvestView) (sweeps left : ℕ) (goal : Option ℕ) → left + 1 ≡ sweeps → IfSome goal (λ g. sum order.hopeful + sum order.dual + sweeps ≤ g) →
    IsSweptOrder order 1 first → ¬ IsSettledHarvest first → IsOrderAgain again first → IsSweptTo again left goal harvest → IsSweptOrder order sweeps harvest
swept_first order again first harvest sweeps left goal all far swept unsettled is_again further =
    let base : IsSweptOrder order (1 + 0) harvest = swept_then order again first harvest 0 is_again further.kept 1 swept unsettled in
    record { lawful = base.lawful; page = base.page; above = base.above; moved = λ fails. on (further.enough fails) }
  where
    on : Reaches goal harvest ⊎ (sum again.hopeful + sum again.dual + left ≤ sum harvest.hopeful + sum harvest.dual) → sum order.hopeful + sum order.dual + sweeps ≤ sum harvest.hopeful + sum harvest.dual
    on (inl reached) = enough_moved goal harvest (sum order.hopeful + sum order.dual) sweeps (sum order.hopeful + sum order.dual) far (omega arith) (inl reached)
    on (inr moved) = omega (arith, all, moved, swept.moved unsettled, ap sum is_again.hopeful, ap sum is_again.dual)
