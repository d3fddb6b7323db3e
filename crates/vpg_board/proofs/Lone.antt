-- One lifter, which raises the tables of a harvest vertex by vertex.
use Rattle.std.proofs.Common.{◌≡◌, ◌≢◌, ℕ, ◌+◌, ◌<◌, ◌≤◌, ◌⊎◌, inl, inr, max, List, length, refl, sym, ap, ◌∙◌, subst, arith}
use Rattle.std.proofs.lemmas.Bool.{cases_eq}
use Rattle.std.proofs.lemmas.List.{get_or-set_same}
use Rattle.std.specs.Prelude.{slice_index, sum}
use Rattle.vpg_guards.specs.declared.tri.Tri.{Tri}
use Rattle.vpg_guards.specs.Known.{kleene}
use Rattle.vpg_game.specs.Game.{NamedGame, graph_of}
use Rattle.vpg_hope.specs.Arena.{vertex_at}
use Rattle.vpg_sides.specs.declared.which.Which.{Which}
use Rattle.vpg_sides.specs.declared.which.Which.TheVariants.{Hopeful, Dual}
use Rattle.vpg_measure.specs.Lifts.{IsTableOf, IsBelowTable, lift_of, raised}
use Rattle.vpg_measure.specs.Orders.{OrderView, HarvestView, IsOrder, IsSameOrder, IsHarvest, IsSettledHarvest, other_table, order_table, harvest_table, order_levels, order_arena}
use Rattle.vpg_measure.specs.TwoGames.{levels_for, arena_for}
use Rattle.vpg_measure.proofs.OrderLemmas.{arena_count}
use Rattle.vpg_measure.proofs.Progs.{lift_grows}
use Rattle.vpg_measure.proofs.Rounds.{below_self, below_trans, raised_above}
use Rattle.vpg_board.specs.Alone.{Rises, lift_over, AreLifted}
use Rattle.vpg_board.specs.Places.{vertices}
use Rattle.vpg_board.proofs.Moving as moving

pub rises_none : (h : HarvestView) → IsHarvest h → Rises h h
rises_none h is = record {
  from = is;
  to = is;
  order = record { game = refl; diagram = refl; decisions = refl; known = refl; hopeful = refl; dual = refl };
  above = λ which. below_self (harvest_table which h);
}

pub rises_trans : (a b d : HarvestView) → Rises a b → Rises b d → Rises a d
rises_trans a b d h k = record {
  from = h.from;
  to = k.to;
  order = record {
    game = k.order.game ∙ h.order.game;
    diagram = k.order.diagram ∙ h.order.diagram;
    decisions = k.order.decisions ∙ h.order.decisions;
    known = k.order.known ∙ h.order.known;
    hopeful = k.order.hopeful ∙ h.order.hopeful;
    dual = k.order.dual ∙ h.order.dual;
  };
  above = λ which. below_trans (harvest_table which a) (harvest_table which b) (harvest_table which d) (h.above which) (k.above which);
}

both_tables : (P : Which → Type 0) (which : Which) → P which → P (other_table which) → (w : Which) → P w
both_tables P Hopeful one other Hopeful = one
both_tables P Hopeful one other Dual = other
both_tables P Dual one other Hopeful = other
both_tables P Dual one other Dual = one

-- one vertex of one table was lifted
pub rises_one : (old new : HarvestView) (which : Which) (v : ℕ) → IsHarvest old → IsHarvest new → IsSameOrder new.order old.order
    → harvest_table which new ≡ raised (order_levels which old.order) (order_arena which old.order) (harvest_table which old) v → harvest_table (other_table which) new ≡ harvest_table (other_table which) old → Rises old new
rises_one old new which v from to same one other = record {
  from = from;
  to = to;
  order = same;
  above = both_tables (λ w. IsBelowTable (harvest_table w old) (harvest_table w new)) which
      (subst (λ t. IsBelowTable (harvest_table which old) t) (sym one) (raised_above (order_levels which old.order) (order_arena which old.order) (harvest_table which old) v))
      (subst (λ t. IsBelowTable (harvest_table (other_table which) old) t) (sym other) (below_self (harvest_table (other_table which) old)));
}

table_wide : (h : HarvestView) → IsHarvest h → (which : Which) → length (harvest_table which h) ≡ vertices h.order
table_wide h is which = (is.below which).is_table.len ∙ arena_count h.order.known which h.order.game

pub lifted_one : (old new : HarvestView) (which : Which) (v : ℕ) → IsHarvest old → v < vertices old.order
    → harvest_table which new ≡ raised (order_levels which old.order) (order_arena which old.order) (harvest_table which old) v → lift_over which old v ≤ slice_index (harvest_table which new) v
lifted_one old new which v is less one =
    subst (λ t. lift_over which old v ≤ slice_index t v) (sym one)
    (let s = get_or-set_same (harvest_table which old) v (max (slice_index (harvest_table which old) v) (lift_over which old v)) 0 (omega (arith, less, table_wide old is which)) in omega arith)

-- a vertex of the same game
pub less_still : (a b : HarvestView) (v : ℕ) → Rises a b → v < vertices a.order → v < vertices b.order
less_still a b v h less = subst (λ (g : NamedGame). v < length g.vertices) (sym h.order.game) less

-- lifts rise with the table
pub lift_later : (a b : HarvestView) (which : Which) (v : ℕ) → Rises a b → lift_over which a v ≤ lift_over which b v
lift_later a b which v h =
    subst (λ (g : NamedGame). lift_over which a v ≤ at g b.order.known) (sym h.order.game)
    (subst (λ (k : List Tri). lift_over which a v ≤ at a.order.game k) (sym h.order.known)
    (lift_grows (order_levels which a.order) (order_arena which a.order) (harvest_table which a) (harvest_table which b) (vertex_at (order_arena which a.order) v)
    (h.from.below which).is_table wide (h.above which)))
  where
    at : NamedGame → List Tri → ℕ
    at g k = lift_of (levels_for which (graph_of g)) (harvest_table which b) (vertex_at (arena_for (kleene k) which (graph_of g)) v)

    wide : IsTableOf (order_levels which a.order) (order_arena which a.order) (harvest_table which b)
    wide = subst (λ (g : NamedGame). IsTableOf (levels_for which (graph_of g)) (arena_for (kleene a.order.known) which (graph_of g)) (harvest_table which b)) h.order.game
        (subst (λ (k : List Tri). IsTableOf (levels_for which (graph_of b.order.game)) (arena_for (kleene k) which (graph_of b.order.game)) (harvest_table which b)) h.order.known (h.to.below which).is_table)

-- what was lifted stays so
pub lifted_still : (a b d : HarvestView) (which : Which) (n : ℕ) → n ≤ vertices a.order → AreLifted which a b n → Rises a b → Rises b d → AreLifted which a d n
lifted_still a b d which n few lifted rise rises v less =
    let wide : length (harvest_table which b) ≡ vertices a.order = table_wide b rise.to which ∙ ap (λ (g : NamedGame). length g.vertices) rise.order.game in
    omega (arith, lifted v less, (rises.above which).1 v (omega (arith, less, few)))

-- one more vertex was lifted, and what was hinted at
pub lifted_next : (a b d e : HarvestView) (which : Which) (v : ℕ) → v < vertices a.order → AreLifted which a b v → Rises a b → Rises b d → lift_over which b v ≤ slice_index (harvest_table which d) v → Rises d e
    → AreLifted which a e (v + 1)
lifted_next a b d e which v less lifted rise one here rest u low = go (cases_eq u v)
  where
    since : Rises a d
    since = rises_trans a b d rise one

    wide : length (harvest_table which d) ≡ vertices a.order
    wide = table_wide d since.to which ∙ ap (λ (g : NamedGame). length g.vertices) since.order.game

    later : slice_index (harvest_table which d) u ≤ slice_index (harvest_table which e) u
    later = (rest.above which).1 u (omega (arith, low, less, wide))

    go : (u ≡ v) ⊎ (u ≢ v) → lift_over which a u ≤ slice_index (harvest_table which e) u
    go (inl same) =
        let first : lift_over which a u ≤ lift_over which b u = lift_later a b which u rise in
        let now : lift_over which b u ≤ slice_index (harvest_table which d) u = subst (λ k. lift_over which b k ≤ slice_index (harvest_table which d) k) (sym same) here in
        omega (arith, later)
    go (inr apart) =
        let before = lifted_still a b d which v (omega (arith, less)) lifted rise one u (omega (arith, low, apart)) in
        omega (arith, later)

-- ---- both tables

module _ (order : OrderView) (is : IsOrder order) (h0 h1 h2 : HarvestView) (same : IsSameOrder h0.order order) (tables : (which : Which) → harvest_table which h0 ≡ order_table which order)
    (first : Rises h0 h1) (second : Rises h1 h2) (hopeful : AreLifted Hopeful h0 h1 (vertices h0.order)) (dual : AreLifted Dual h1 h2 (vertices h1.order)) where
  whole : Rises h0 h2
  whole = rises_trans h0 h1 h2 first second

  pub same_order : IsSameOrder h2.order order
  same_order = record {
    game = whole.order.game ∙ same.game;
    diagram = whole.order.diagram ∙ same.diagram;
    decisions = whole.order.decisions ∙ same.decisions;
    known = whole.order.known ∙ same.known;
    hopeful = whole.order.hopeful ∙ same.hopeful;
    dual = whole.order.dual ∙ same.dual;
  }

  -- the lift over the order's own table
  own : (which : Which) (v : ℕ) → lift_of (order_levels which order) (order_table which order) (vertex_at (order_arena which order) v) ≡ lift_over which h0 v
  own which v = λ k. lift_of (levels_for which (graph_of (sym same.game k))) (sym (tables which) k) (vertex_at (arena_for (kleene (sym same.known k)) which (graph_of (sym same.game k))) v)

  at : (which : Which) (v : ℕ) → v < vertices h0.order → lift_over which h0 v ≤ slice_index (harvest_table which h2) v
  at Hopeful v less = lifted_still h0 h1 h2 Hopeful (vertices h0.order) (omega arith) hopeful first second v less
  at Dual v less = omega (arith, lift_later h0 h1 Dual v first, dual v (less_still h0 h1 v first less))

  pub lifted : (which : Which) (v : ℕ) → v < vertices order → lift_of (order_levels which order) (order_table which order) (vertex_at (order_arena which order) v) ≤ slice_index (harvest_table which h2) v
  lifted which v less = omega (arith, own which v, at which v (subst (λ (g : NamedGame). v < length g.vertices) (sym same.game) less))

  pub above : (which : Which) → IsBelowTable (order_table which order) (harvest_table which h2)
  above = moving.above_same order h2 same_order second.to

  pub moved : ¬ IsSettledHarvest h2 → sum order.hopeful + sum order.dual < sum h2.hopeful + sum h2.dual
  moved = moving.moved order h2 is same_order above lifted
