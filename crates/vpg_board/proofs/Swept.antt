-- What a sweep brings back, from what its last seat knows.
use Rattle.std.proofs.Common.{◌≡◌, ℕ, ◌+◌, ◌<◌, ◌≤◌, sym, ap, ◌∙◌, subst, arith}
use Rattle.std.specs.Prelude.{slice_index, sum, Result, Ok, Err, IfOk}
use Rattle.vpg_hope.specs.Arena.{vertex_at}
use Rattle.vpg_sides.specs.declared.which.Which.{Which}
use Rattle.vpg_measure.specs.Lifts.{IsBelowTable, lift_of}
use Rattle.vpg_measure.specs.Orders.{OrderView, HarvestView, IsOrder, IsSameOrder, IsHarvest, IsSettledHarvest, order_table, harvest_table, order_levels, order_arena}
use Rattle.vpg_board.specs.declared.lifter.Lifter.{Lifter}
use Rattle.vpg_board.specs.Places.{vertices, places, table_in}
use Rattle.vpg_board.specs.Lifters.{opener}
use Rattle.vpg_board.specs.Seats.{BoardView, SeatView, opening_seat, AreAll, StandsForAll}
use Rattle.vpg_board.specs.Worked.{HasWorked}
use Rattle.vpg_board.proofs.Working.{all_lifted}
use Rattle.vpg_board.proofs.Moving as moving

-- what three facts of an answer yield, where it is Ok
pub ok_of : {A E : Type 0} (P Q R S : A → Type 0) (r : Result A E) → ((x : A) → P x → Q x → R x → S x) → IfOk r P → IfOk r Q → IfOk r R → IfOk r S
ok_of P Q R S (Ok x) f p q h = f x p q h
ok_of P Q R S (Err e) f p q h = tt

module _ (order : OrderView) (board : BoardView) (is : board.order ≡ order) (first last : SeatView) (is_first : first ≡ opening_seat board) (done : HasWorked board first.lifter last)
    (harvest : HarvestView) (same : IsSameOrder harvest.order board.order) (seen : (which : Which) → IsBelowTable (table_in board.order which last.lifter.seen) (harvest_table which harvest)) (is_harvest : IsHarvest harvest) where
  before : first.lifter ≡ opener board.order
  before = ap (λ (s : SeatView). s.lifter) is_first

  stands : StandsForAll last.lifter
  stands = (
    done.stand.opening ∙ ap (λ (v : Lifter). v.opening) before,
    (let a = ap (λ (v : Lifter). v.stands) before in let b = ap (λ (v : Lifter). v.splits) before in omega (arith, done.stand.stands)),
  )

  abbrev own : last.lifter.order ≡ board.order
  own = sym done.works.own

  claimed : AreAll board.order last.lifter.claims
  claimed = subst (λ (o : OrderView). AreAll o last.lifter.claims) own (done.all stands done.none_left)

  lifted_here : (which : Which) (v : ℕ) → v < vertices board.order → lift_of (order_levels which board.order) (order_table which board.order) (vertex_at (order_arena which board.order) v) ≤ slice_index (harvest_table which harvest) v
  lifted_here which =
      all_lifted board.order done.works.order last.lifter which (harvest_table which harvest) own (done.works.safe.wide ∙ ap (λ (o : OrderView). places o) own) claimed done.works.worked (seen which)

  pub same_order : IsSameOrder harvest.order order
  same_order = subst (IsSameOrder harvest.order) is same

  pub lifted : (which : Which) (v : ℕ) → v < vertices order → lift_of (order_levels which order) (order_table which order) (vertex_at (order_arena which order) v) ≤ slice_index (harvest_table which harvest) v
  lifted = subst (λ (o : OrderView). (which : Which) (v : ℕ) → v < vertices o → lift_of (order_levels which o) (order_table which o) (vertex_at (order_arena which o) v) ≤ slice_index (harvest_table which harvest) v) is lifted_here

  pub above : (which : Which) → IsBelowTable (order_table which order) (harvest_table which harvest)
  above = moving.above_same order harvest same_order is_harvest

  pub moved : ¬ IsSettledHarvest harvest → sum order.hopeful + sum order.dual < sum harvest.hopeful + sum harvest.dual
  moved = moving.moved order harvest (subst IsOrder is done.works.order) same_order above lifted
