-- What so many rounds settle, as many sweeps settle.
use Rattle.std.proofs.Common.{◌≡◌, ℕ, zero, suc, ◌+◌, ◌<◌, ◌≤◌, max, List, length, slice_index, ◌⊎◌, inl, inr, refl, sym, ap, ◌∙◌, subst, All, arith}
use Rattle.std.specs.Prelude.{Option, Some, None, IfSome}
use Rattle.std.proofs.lemmas.Bool.{cases_lt}
use Rattle.std.proofs.lemmas.List.{ext_get_or}
use Rattle.std.proofs.lemmas.List.Elements.{All-from_get_or}
use Rattle.vpg_guards.specs.Known.{kleene}
use Rattle.vpg_game.specs.declared.levels.Level.{Level}
use Rattle.vpg_game.specs.Levels.{top_of}
use Rattle.vpg_game.specs.Game.{NamedGame, graph_of}
use Rattle.vpg_hope.specs.Arena.{Vertex, vertex_at}
use Rattle.vpg_sides.specs.declared.which.Which.{Which}
use Rattle.vpg_sides.specs.declared.which.Which.TheVariants.{Hopeful, Dual}
use Rattle.vpg_measure.specs.Lifts.{IsTableOf, IsProgressTable, IsBelowTable, lift_of}
use Rattle.vpg_measure.specs.Orders.{OrderView, HarvestView, IsOrder, IsHarvest, IsSameOrder, IsOrderAgain, IsSettledHarvest, order_table, harvest_table, order_levels, order_arena}
use Rattle.vpg_measure.specs.TwoGames.{levels_for, arena_for}
use Rattle.vpg_measure.proofs.OrderLemmas.{arena_count}
use Rattle.vpg_measure.proofs.Progs.{lift_grows, slice_index-le}
use Rattle.vpg_measure.proofs.Rounds.{below_self, below_trans}
use Rattle.vpg_settle.specs.Sweeping.{IsOfPage, IsSweptOrder, IsOneSweep, IsSweptBy, swept_of, IsGuessed, guessed_of, IsLeft, AfterGuess, AreSweeps, Settles, IsRound, RoundsSettle, RoundsSettleOrder, HasGoal, EndsBy, HasEnded}
use Rattle.vpg_settle.proofs.Repeated.{progress_moves, page_back, same_page}

-- ---- tables

table_under : (ls : List Level) (arena : List Vertex) (a b : List ℕ) → IsBelowTable a b → IsTableOf ls arena b → IsTableOf ls arena a
table_under ls arena a b below t = record {
  len = below.0 ∙ t.len;
  within = All-from_get_or (λ n. n ≤ top_of ls) a 0 (λ v l. omega (arith, below.1 v l, slice_index-le (top_of ls) b t.within v));
}

-- a round of a smaller table stays below what is raised to the lifts of a greater one
round_under : (ls : List Level) (arena : List Vertex) (base next table raised : List ℕ) → IsTableOf ls arena table → IsBelowTable base table → IsRound ls arena base next → IsBelowTable table raised →
    ((v : ℕ) → v < length arena → lift_of ls table (vertex_at arena v) ≤ slice_index raised v) → IsBelowTable next raised
round_under ls arena base next table raised t below round above lifted = (round.len ∙ below.0 ∙ above.0, λ v l. at v (subst (λ n. v < n) round.len l))
  where
    at : (v : ℕ) → v < length base → slice_index next v ≤ slice_index raised v
    at v l = omega (
      arith,
      round.lifted v l,
      below.1 v l,
      above.1 v (subst (λ n. v < n) below.0 l),
      lifted v (subst (λ n. v < n) (below.0 ∙ t.len) l),
      lift_grows ls arena base table (vertex_at arena v) (table_under ls arena base table below t) t below,
    )

-- ---- sweeps of one page

pages_join : (one other third : OrderView) → IsOfPage one other → IsOfPage other third → IsOfPage one third
pages_join one other third p q = record { game = p.game ∙ q.game; diagram = p.diagram ∙ q.diagram; decisions = p.decisions ∙ q.decisions; known = p.known ∙ q.known }

again_page : (again : OrderView) (harvest : HarvestView) → IsOrderAgain again harvest → IsOfPage again harvest.order
again_page again harvest is = record { game = is.game; diagram = is.diagram; decisions = is.decisions; known = is.known }

again_table : (again : OrderView) (harvest : HarvestView) → IsOrderAgain again harvest → (which : Which) → order_table which again ≡ harvest_table which harvest
again_table again harvest is Hopeful = is.hopeful
again_table again harvest is Dual = is.dual

same_table : (one other : OrderView) → IsSameOrder one other → (which : Which) → order_table which one ≡ order_table which other
same_table one other same Hopeful = same.hopeful
same_table one other same Dual = same.dual

module _ (origin : OrderView) (which : Which) where
  abbrev ls : List Level
  ls = order_levels which origin

  abbrev arena : List Vertex
  arena = order_arena which origin

  -- what holds of an order's game holds of that of another order of the page
  moves : (P : List Level → List Vertex → Type 0) (other : OrderView) → IsOfPage other origin → P (order_levels which other) (order_arena which other) → P ls arena
  moves P other page p = coe 0 1 (i. P (levels_for which (graph_of (page.game i))) (arena_for (kleene (page.known i)) which (graph_of (page.game i)))) p

  -- a table of this page: not below this one, and one of its measures
  record Has (base table : List ℕ) : Type 0 where
    is_table : IsTableOf ls arena table
    above : IsBelowTable base table

  -- a progress table that a harvest is not below
  abbrev Reached : HarvestView → Type 0
  Reached harvest = (goal : List ℕ) × IsProgressTable ls arena goal × IsBelowTable goal (harvest_table which harvest)

  harvest_is_table : (harvest : HarvestView) → IsOfPage harvest.order origin → IsHarvest harvest → IsTableOf ls arena (harvest_table which harvest)
  harvest_is_table harvest page lawful = moves (λ l a. IsTableOf l a (harvest_table which harvest)) harvest.order page (lawful.below which).is_table

  lifts : (order : OrderView) (first : HarvestView) → IsOfPage order origin → IsOneSweep order first → (v : ℕ) → v < length arena →
      lift_of ls (order_table which order) (vertex_at arena v) ≤ slice_index (harvest_table which first) v
  lifts order first page sweep v l =
      moves (λ k a. lift_of k (order_table which order) (vertex_at a v) ≤ slice_index (harvest_table which first) v) order page
      (sweep.lifted which v (subst (λ n. v < n) (arena_count origin.known which origin.game ∙ sym (ap (λ (g : NamedGame). length g.vertices) page.game)) l))

  module _ (lifters : ℕ) where
    -- what becomes of a harvest after so many rounds: it is the last one, or it is swept on
    after : (n k : ℕ) (harvest first : HarvestView) (base : List ℕ) →
        ((order : OrderView) → IsOfPage order origin → Has base (order_table which order) → AreSweeps lifters n order harvest → Reached harvest) →
        k ≤ n → RoundsSettle ls arena k base → IsOfPage first.order origin → Has base (harvest_table which first) →
        ((n ≡ 0) × (harvest ≡ first)) ⊎ ((again : OrderView) × ((¬ IsSettledHarvest first) × IsOrderAgain again first × AfterGuess n (AreSweeps lifters n) again harvest)) → Reached harvest
    after n k harvest first base on few settle page has (inl (none, same)) =
        let done : k ≡ 0 = omega (arith, none, few) in
        (base, subst (λ (m : ℕ). RoundsSettle ls arena m base) done settle, subst (λ (h : HarvestView). IsBelowTable base (harvest_table which h)) (sym same) has.above)
    after n k harvest first base on few settle page has (inr (again, (unsettled, is_again, made))) = guessed_on made
      where
        next_page : IsOfPage again origin
        next_page = pages_join again first.order origin (again_page again first is_again) page

        next_has : Has base (order_table which again)
        next_has = subst (Has base) (sym (again_table again first is_again which)) has

        guessed_on : AfterGuess n (AreSweeps lifters n) again harvest → Reached harvest
        guessed_on (inl swept) = on again next_page next_has swept
        guessed_on (inr (raised, (guess, inl (none, settled, same)))) =
            let raised_page : IsOfPage raised.order origin = pages_join raised.order again origin (same_page raised.order again (guessed_of again raised guess).1) next_page in
            let progress : IsProgressTable ls arena (harvest_table which raised) = moves (λ l a. IsProgressTable l a (harvest_table which raised)) raised.order raised_page (settled which) in
            let below : IsBelowTable (harvest_table which raised) (harvest_table which harvest) =
            subst (λ (h : HarvestView). IsBelowTable (harvest_table which raised) (harvest_table which h)) (sym same) (below_self (harvest_table which raised)) in
            (harvest_table which raised, progress, below)
        guessed_on (inr (raised, (guess, inr (next, (is_next, swept))))) =
            let lawful = (guessed_of again raised guess).0 in
            let alike = (guessed_of again raised guess).1 in
            let raised_page : IsOfPage raised.order origin = pages_join raised.order again origin (same_page raised.order again alike) next_page in
            let above : IsBelowTable (order_table which again) (harvest_table which raised) = subst (λ (t : List ℕ). IsBelowTable t (harvest_table which raised)) (same_table raised.order again alike which) (lawful.above which) in
            on next (pages_join next raised.order origin (again_page next raised is_next) raised_page)
            (subst (Has base) (sym (again_table next raised is_next which)) (record { is_table = harvest_is_table raised raised_page lawful; above = below_trans base (order_table which again) (harvest_table which raised) next_has.above above }))
            swept

    reached : (n k : ℕ) (order : OrderView) (harvest : HarvestView) (base : List ℕ) → k ≤ n → RoundsSettle ls arena k base → IsOfPage order origin → Has base (order_table which order) → AreSweeps lifters n order harvest → Reached harvest
    reached zero zero order harvest base few settle page has left = (base, settle, subst (λ (t : List ℕ). IsBelowTable base t) (sym (left.same which)) has.above)
    reached zero (suc k) order harvest base few settle page has left = absurd (omega (arith, few))
    reached (suc n) zero order harvest base few settle page has (first, (by, rest)) =
        let sweep = swept_of lifters order first by in
        let first_page : IsOfPage first.order origin = pages_join first.order order origin sweep.swept.page page in
        after n 0 harvest first base (λ o p h s. reached n 0 o harvest base (omega arith) settle p h s) (omega arith) settle first_page
        (record { is_table = harvest_is_table first first_page sweep.swept.lawful; above = below_trans base (order_table which order) (harvest_table which first) has.above (sweep.swept.above which) }) rest
    reached (suc n) (suc k) order harvest base few (next, round, settle) page has (first, (by, rest)) =
        let sweep = swept_of lifters order first by in
        let first_page : IsOfPage first.order origin = pages_join first.order order origin sweep.swept.page page in
        after n k harvest first next (λ o p h s. reached n k o harvest next (omega (arith, few)) settle p h s) (omega (arith, few)) settle first_page
        (record {
          is_table = harvest_is_table first first_page sweep.swept.lawful;
          above = round_under ls arena base next (order_table which order) (harvest_table which first) has.is_table has.above round (sweep.swept.above which) (lifts order first page sweep);
        }) rest

  -- a harvest that is not below a progress table is one
  settled_at : (harvest : HarvestView) → IsOfPage harvest.order origin → IsHarvest harvest → Reached harvest → IsProgressTable (order_levels which harvest.order) (order_arena which harvest.order) (harvest_table which harvest)
  settled_at harvest page lawful (goal, progress, below) =
      let there : IsProgressTable (order_levels which harvest.order) (order_arena which harvest.order) goal = progress_moves origin harvest.order (page_back harvest.order origin page) which goal progress in
      let is = lawful.below which in
      let under : IsBelowTable (harvest_table which harvest) goal =
      is.below goal (table_under (order_levels which harvest.order) (order_arena which harvest.order) goal (harvest_table which harvest) below is.is_table) there in
      subst (λ (t : List ℕ). IsProgressTable (order_levels which harvest.order) (order_arena which harvest.order) t)
      (ext_get_or 0 goal (harvest_table which harvest) below.0 (λ v l. omega (arith, below.1 v l, under.1 v (subst (λ n. v < n) below.0 l)))) there

module _ (lifters n k : ℕ) (order : OrderView) (harvest : HarvestView) (is_order : IsOrder order) (lawful : IsHarvest harvest) (page : IsOfPage harvest.order order) where
  -- at one table
  settles_one : k ≤ n → (which : Which) → RoundsSettle (order_levels which order) (order_arena which order) k (order_table which order) → Settles lifters n order harvest →
      IsProgressTable (order_levels which harvest.order) (order_arena which harvest.order) (harvest_table which harvest)
  settles_one few which settle (inl made) =
      settled_at order which harvest page lawful
      (reached order which lifters n k order harvest (order_table which order) few settle
      (record { game = refl; diagram = refl; decisions = refl; known = refl })
      (record { is_table = (is_order.below which).is_table; above = below_self (order_table which order) }) made)
  settles_one few which settle (inr (raised, (guess, inl (none, settled, same)))) =
      subst (λ (h : HarvestView). IsProgressTable (order_levels which h.order) (order_arena which h.order) (harvest_table which h)) (sym same) (settled which)
  settles_one few which settle (inr (raised, (guess, inr (next, (is_next, made))))) =
      let raised_lawful = (guessed_of order raised guess).0 in
      let alike = (guessed_of order raised guess).1 in
      let raised_page : IsOfPage raised.order order = same_page raised.order order alike in
      let above : IsBelowTable (order_table which order) (harvest_table which raised) = subst (λ (t : List ℕ). IsBelowTable t (harvest_table which raised)) (same_table raised.order order alike which) (raised_lawful.above which) in
      settled_at order which harvest page lawful
      (reached order which lifters n k next harvest (order_table which order) few settle
      (pages_join next raised.order order (again_page next raised is_next) raised_page)
      (subst (Has order which (order_table which order)) (sym (again_table next raised is_next which)) (record { is_table = harvest_is_table order which raised raised_page raised_lawful; above = above })) made)

  pub settles_within : k ≤ n → RoundsSettleOrder k order → Settles lifters n order harvest → IsSettledHarvest harvest
  settles_within few settle made = λ which. settles_one few which (settle which) made

-- ---- all sweeps that a line may count on

-- rounds up to 16, or up to any number of a line of fewer than a million, are no more than the sweeps that were made
pub settles_all : (lifters made sweeps k : ℕ) (order : OrderView) (harvest : HarvestView) → IsOrder order → IsSweptOrder order sweeps harvest → Settles lifters made order harvest → HasEnded sweeps made harvest →
    k ≤ sweeps → (k ≤ 16) ⊎ (sweeps < 1000000) → RoundsSettleOrder k order → IsSettledHarvest harvest
settles_all lifters made sweeps k order harvest is_order swept settles ended few bound settle = go ended bound
  where
    within : k ≤ made → IsSettledHarvest harvest
    within less = settles_within lifters made k order harvest is_order swept.lawful swept.page less settle settles

    go : HasEnded sweeps made harvest → (k ≤ 16) ⊎ (sweeps < 1000000) → IsSettledHarvest harvest
    go (inl settled) either = settled
    go (inr (inl all)) either = within (omega (arith, all, few))
    go (inr (inr (many, late))) (inl small) = within (omega (arith, late, small))
    go (inr (inr (many, late))) (inr fewer) = absurd (omega (arith, many, fewer))

-- ---- how sweeps end

-- a harvest that is settled, or had all its sweeps
pub ends_anyhow : (goal : Option ℕ) (sweeps made : ℕ) (harvest : HarvestView) → IsSettledHarvest harvest ⊎ (made ≡ sweeps) → EndsBy goal sweeps made harvest
ends_anyhow goal sweeps made harvest (inl settled) = inl settled
ends_anyhow goal sweeps made harvest (inr all) = inr (inl all)

many_of : (goal : Option ℕ) (sweeps : ℕ) → IfSome goal (λ _. 1000000 ≤ sweeps) → HasGoal goal → 1000000 ≤ sweeps
many_of None sweeps many has = absurd has
many_of (Some g) sweeps many has = many

pub ended_by : (goal : Option ℕ) (sweeps made : ℕ) (harvest : HarvestView) → IfSome goal (λ _. 1000000 ≤ sweeps) → EndsBy goal sweeps made harvest → HasEnded sweeps made harvest
ended_by goal sweeps made harvest many (inl settled) = inl settled
ended_by goal sweeps made harvest many (inr (inl all)) = inr (inl all)
ended_by goal sweeps made harvest many (inr (inr (has, late))) = inr (inr (many_of goal sweeps many has, late))

-- one sweep more before them
pub ended_later : (goal : Option ℕ) (sweeps left made : ℕ) (harvest : HarvestView) → left + 1 ≡ sweeps → IfSome goal (λ _. 1000000 ≤ sweeps) → EndsBy goal left made harvest → HasEnded sweeps (1 + made) harvest
ended_later goal sweeps left made harvest all many (inl settled) = inl settled
ended_later goal sweeps left made harvest all many (inr (inl none)) = inr (inl (omega (arith, all, none)))
ended_later goal sweeps left made harvest all many (inr (inr (has, late))) = inr (inr (many_of goal sweeps many has, omega (arith, late)))
