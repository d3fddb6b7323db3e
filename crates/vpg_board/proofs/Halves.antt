-- The two tables of an order, one behind the other, and lifts on them.
use Rattle.std.proofs.Common.{◌≡◌, ℕ, zero, suc, ◌+◌, ◌-◌, ◌<◌, ◌≤◌, cond, true, false, Bool, List, [], ◌∷◌, ◌++◌, length, get_or, refl, sym, ap, ◌∙◌, subst, arith}
use Rattle.std.specs.Prelude.{slice_index, nat_lt}
use Rattle.std.proofs.lemmas.Bool.Decides.{nat_tests}
use Rattle.std.proofs.lemmas.List.{get_or-take, get_or-drop, length-take-le, length-drop, take_at, drop_at, length-append}
use Rattle.std.proofs.lemmas.List.Elements.{All-from_get_or, All-get_or}
use mathlib.Core.Logic.{dite}
use native.Mathlib.Decide.{dec_lt}
use Rattle.vpg_guards.specs.Formula.{Formula}
use Rattle.vpg_guards.specs.Known.{kleene}
use Rattle.vpg_game.specs.Game.{graph_of}
use Rattle.vpg_hope.specs.Arena.{vertex_at}
use Rattle.vpg_sides.specs.declared.which.Which.{Which}
use Rattle.vpg_sides.specs.declared.which.Which.TheVariants.{Hopeful, Dual}
use Rattle.vpg_measure.specs.Lifts.{IsTableOf, IsBelowTable}
use Rattle.vpg_measure.specs.Orders.{OrderView, IsOrder, order_table, order_levels, order_arena}
use Rattle.vpg_measure.specs.TwoGames.{IsProgressOf, top_for}
use Rattle.vpg_measure.proofs.OrderLemmas.{arena_count, table_count}
use Rattle.vpg_measure.proofs.Progs.{lift_grows}
use Rattle.vpg_measure.proofs.Rounds.{lift_stays_below}
use Rattle.vpg_measure.proofs.TwoGames.{tops, tops_progress}
use Rattle.vpg_board.specs.Places.{vertices, places, place_of, values, table_in, lift_in, lift_at, AreProgress, Below}

-- ---- halves

pub table_wide : (order : OrderView) (which : Which) (seen : List ℕ) → length seen ≡ places order → length (table_in order which seen) ≡ vertices order
table_wide order Hopeful seen wide = length-take-le (vertices order) seen (omega arith)
table_wide order Dual seen wide = let e = length-drop (vertices order) seen in omega arith

pub table_at : (order : OrderView) (which : Which) (seen : List ℕ) (v : ℕ) → v < vertices order → slice_index (table_in order which seen) v ≡ slice_index seen (place_of order which v)
table_at order Hopeful seen v less = get_or-take (vertices order) seen v 0 less
table_at order Dual seen v less = get_or-drop (vertices order) seen v 0

pub place_less : (order : OrderView) (which : Which) (v : ℕ) → v < vertices order → place_of order which v < places order
place_less order Hopeful v less = omega arith
place_less order Dual v less = omega arith

pub halves_below : (order : OrderView) (which : Which) (t u : List ℕ) → length t ≡ places order → length u ≡ places order → Below t u → IsBelowTable (table_in order which t) (table_in order which u)
halves_below order which t u wide wide' below = (table_wide order which t wide ∙ sym (table_wide order which u wide'), λ v less. at v (subst (λ n. v < n) (table_wide order which t wide) less))
  where
    at : (v : ℕ) → v < vertices order → slice_index (table_in order which t) v ≤ slice_index (table_in order which u) v
    at v less = omega (arith, table_at order which t v less, table_at order which u v less, below (place_of order which v))

-- a place is a vertex of one of the two
pub by_place : (order : OrderView) (P : ℕ → Type 0) → ((which : Which) (v : ℕ) → v < vertices order → P (place_of order which v)) → (p : ℕ) → p < places order → P p
by_place order P each p less = dite (dec_lt p (vertices order))
    (λ first. each Hopeful p first)
    (λ second. let e : vertices order + (p - vertices order) ≡ p = omega arith in subst P e (each Dual (p - vertices order) (omega arith)))

pub lift_place : (order : OrderView) (which : Which) (seen : List ℕ) (v : ℕ) → v < vertices order → lift_at order seen (place_of order which v) ≡ lift_in order which seen v
lift_place order Hopeful seen v less = ap (λ (b : Bool). cond b (lift_in order Hopeful seen v) (lift_in order Dual seen (v - vertices order))) (is_less v (vertices order) less)
  where
    is_less : (m n : ℕ) → m < n → nat_lt m n ≡ true
    is_less m n h = grind (arith, nat_tests)
lift_place order Dual seen v less =
    ap (λ (b : Bool). cond b (lift_in order Hopeful seen (vertices order + v)) (lift_in order Dual seen (vertices order + v - vertices order))) (is_more (vertices order + v) (vertices order) (omega arith))
    ∙ (let e : vertices order + v - vertices order ≡ v = omega arith in ap (λ w. lift_in order Dual seen w) e)
  where
    is_more : (m n : ℕ) → n ≤ m → nat_lt m n ≡ false
    is_more m n h = grind (arith, nat_tests)

-- ---- progress tables

-- the top everywhere
tops_of : OrderView → List ℕ
tops_of order = tops Formula (kleene order.known) Hopeful (graph_of order.game) ++ tops Formula (kleene order.known) Dual (graph_of order.game)

pub top_table : (order : OrderView) (which : Which) → IsProgressOf (kleene order.known) which (graph_of order.game) (tops Formula (kleene order.known) which (graph_of order.game))
top_table order which = tops_progress Formula (kleene order.known) which (graph_of order.game)

pub top_wide : (order : OrderView) (which : Which) → length (tops Formula (kleene order.known) which (graph_of order.game)) ≡ vertices order
top_wide order which = (top_table order which).is_table.len ∙ arena_count order.known which order.game

tops_are : (order : OrderView) → AreProgress order (tops_of order)
unfolding tops_of
tops_are order = record {
  wide = length-append (tops Formula (kleene order.known) Hopeful (graph_of order.game)) (tops Formula (kleene order.known) Dual (graph_of order.game)) ∙ (let a = top_wide order Hopeful in let b = top_wide order Dual in omega arith);
  each = at;
}
  where
    at : (which : Which) → IsProgressOf (kleene order.known) which (graph_of order.game)
        (table_in order which (tops Formula (kleene order.known) Hopeful (graph_of order.game) ++ tops Formula (kleene order.known) Dual (graph_of order.game)))
    at Hopeful = subst (λ (t : List ℕ). IsProgressOf (kleene order.known) Hopeful (graph_of order.game) t)
        (sym (take_at (tops Formula (kleene order.known) Hopeful (graph_of order.game)) (tops Formula (kleene order.known) Dual (graph_of order.game)) (vertices order) (top_wide order Hopeful))) (top_table order Hopeful)
    at Dual = subst (λ (t : List ℕ). IsProgressOf (kleene order.known) Dual (graph_of order.game) t)
        (sym (drop_at (tops Formula (kleene order.known) Hopeful (graph_of order.game)) (tops Formula (kleene order.known) Dual (graph_of order.game)) (vertices order) (top_wide order Hopeful))) (top_table order Dual)

-- what is below some pair of progress tables is a pair of tables
pub is_table : (order : OrderView) (which : Which) (t u : List ℕ) → length t ≡ places order → Below t u → AreProgress order u → IsTableOf (order_levels which order) (order_arena which order) (table_in order which t)
is_table order which t u wide below progress = record {
  len = table_wide order which t wide ∙ sym (arena_count order.known which order.game);
  within = All-from_get_or (λ n. n ≤ top_for which (graph_of order.game)) (table_in order which t) 0
      (λ v less. let less' : v < vertices order = subst (λ n. v < n) (table_wide order which t wide) less in
      let less'' : v < length (table_in order which u) = subst (λ n. v < n) (sym (table_wide order which u progress.wide)) less' in
      let a = All-get_or (λ n. n ≤ top_for which (graph_of order.game)) (table_in order which u) v 0 less'' (progress.each which).is_table.within in
      let b = (halves_below order which t u wide progress.wide below).1 v less in omega arith);
}

-- what is below every pair of progress tables is a pair of tables
pub safe_table : (order : OrderView) (which : Which) (t : List ℕ) → length t ≡ places order → ((u : List ℕ) → AreProgress order u → Below t u) → IsTableOf (order_levels which order) (order_arena which order) (table_in order which t)
safe_table order which t wide under = is_table order which t (tops_of order) wide (under (tops_of order) (tops_are order)) (tops_are order)

-- ---- what a run needs of the order

pub values_wide : (order : OrderView) → IsOrder order → length (values order) ≡ places order
values_wide order is = length-append order.hopeful order.dual ∙ (let a = table_count order is Hopeful in let b = table_count order is Dual in omega arith)

pub values_in : (order : OrderView) → IsOrder order → (which : Which) → table_in order which (values order) ≡ order_table which order
values_in order is Hopeful = take_at order.hopeful order.dual (vertices order) (table_count order is Hopeful)
values_in order is Dual = drop_at order.hopeful order.dual (vertices order) (table_count order is Hopeful)

-- values at each place, where nothing stands for zero
below_by_place : (order : OrderView) (t u : List ℕ) → length t ≡ places order → ((p : ℕ) → p < places order → slice_index t p ≤ slice_index u p) → Below t u
below_by_place order t u wide each p = dite (dec_lt p (places order)) (λ less. each p less) (λ more. omega (arith, past t p (omega arith)))
  where
    past : (l : List ℕ) (k : ℕ) → length l ≤ k → get_or l k 0 ≡ 0
    past [] k h = refl
    past (x ∷ l) zero h = absurd (omega arith)
    past (x ∷ l) (suc k) h = past l k (omega arith)

pub below_by_table : (order : OrderView) (t u : List ℕ) → length t ≡ places order → ((which : Which) (v : ℕ) → v < vertices order → slice_index (table_in order which t) v ≤ slice_index (table_in order which u) v) → Below t u
below_by_table order t u wide each = below_by_place order t u wide (by_place order (λ p. slice_index t p ≤ slice_index u p)
    (λ which v less. omega (arith, table_at order which t v less, table_at order which u v less, each which v less)))

-- the order's tables are below every pair of progress tables
pub values_below : (order : OrderView) → IsOrder order → (u : List ℕ) → AreProgress order u → Below (values order) u
values_below order is u progress = below_by_table order (values order) u (values_wide order is) at
  where
    at : (which : Which) (v : ℕ) → v < vertices order → slice_index (table_in order which (values order)) v ≤ slice_index (table_in order which u) v
    at which v less =
        let p = progress.each which in
        let b = (is.below which).below (table_in order which u) p.is_table p.settled in
        let e : slice_index (table_in order which (values order)) v ≡ slice_index (order_table which order) v = ap (λ t. get_or t v 0) (values_in order is which) in
        let h = b.1 v (subst (λ n. v < n) (sym (table_count order is which)) less) in omega arith

-- the lift of what is below a pair of progress tables stays below it
pub lift_stays : (order : OrderView) (t u : List ℕ) (p : ℕ) → p < places order → length t ≡ places order → Below t u → AreProgress order u → lift_at order t p ≤ slice_index u p
lift_stays order t u p less wide below progress = by_place order (λ q. lift_at order t q ≤ slice_index u q) at p less
  where
    at : (which : Which) (v : ℕ) → v < vertices order → lift_at order t (place_of order which v) ≤ slice_index u (place_of order which v)
    at which v less' =
        let q = progress.each which in
        let h = lift_stays_below (order_levels which order) (order_arena which order) (table_in order which t) (table_in order which u) v (is_table order which t u wide below progress) q.is_table q.settled
        (halves_below order which t u wide progress.wide below) (subst (λ n. v < n) (sym (arena_count order.known which order.game)) less') in
        omega (arith, lift_place order which t v less', table_at order which u v less')

-- a lift grows with what was seen
pub lift_rises : (order : OrderView) (which : Which) (t u : List ℕ) (v : ℕ) → length t ≡ places order → length u ≡ places order → Below t u → ((w : List ℕ) → AreProgress order w → Below u w) → lift_in order which t v ≤ lift_in order which u v
lift_rises order which t u v wide wide' below under =
    lift_grows (order_levels which order) (order_arena which order) (table_in order which t) (table_in order which u) (vertex_at (order_arena which order) v)
    (is_table order which t (tops_of order) wide (λ k. omega (arith, below k, under (tops_of order) (tops_are order) k)) (tops_are order))
    (safe_table order which u wide' under) (halves_below order which t u wide wide' below)
