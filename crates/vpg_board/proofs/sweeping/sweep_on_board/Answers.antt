use Rattle.vpg_board.proofs.Swept as swept
use Rattle.vpg_board.proofs.Working.{works_open}
use Rattle.std.proofs.Common.{◌≡◌, ◌∙◌, sym, ap, subst}
use Rattle.std.specs.Prelude.{IfErr, IfOk}
use Rattle.vpg_measure.specs.Orders.{OrderView, HarvestView, IsSameOrder}
use Rattle.vpg_board.specs.Places.{vertices}
use Rattle.vpg_board.proofs.sweeping.sweep_on_board.Goals as goal

pub work_with_hints-seat-requires-clause-works : goal.work_with_hints-seat-requires-clause-works
work_with_hints-seat-requires-clause-works g c κs within =
    let o = c.in_ok-board.ensures in works_open c.in_ok-board.board c.in_ok-board.seat o.is_order o.seat o.safe

pub returns-clause-lifted : goal.returns-clause-lifted
returns-clause-lifted g c =
    let o = c.in_ok-board.ensures in let e = c.close.ensures in
    swept.ok_of _ _ _ _ c.close.result (λ h. swept.lifted c.args.order c.in_ok-board.board o.order c.in_ok-board.seat c.work_with_hints-seat.result o.seat c.work_with_hints-seat.ensures h) e.order e.seen e.harvest

pub returns-clause-above : goal.returns-clause-above
returns-clause-above g c =
    let o = c.in_ok-board.ensures in let e = c.close.ensures in
    swept.ok_of _ _ _ _ c.close.result (λ h. swept.above c.args.order c.in_ok-board.board o.order c.in_ok-board.seat c.work_with_hints-seat.result o.seat c.work_with_hints-seat.ensures h) e.order e.seen e.harvest

pub returns-clause-moved : goal.returns-clause-moved
returns-clause-moved g c =
    let o = c.in_ok-board.ensures in let e = c.close.ensures in
    swept.ok_of _ _ _ _ c.close.result (λ h. swept.moved c.args.order c.in_ok-board.board o.order c.in_ok-board.seat c.work_with_hints-seat.result o.seat c.work_with_hints-seat.ensures h) e.order e.seen e.harvest

pub returns-clause-back : goal.returns-clause-back
returns-clause-back g c =
    subst (λ (o : OrderView). IfErr c.close.result (λ (back : OrderView). back ≡ o)) c.in_ok-board.ensures.order c.close.ensures.back

pub returns-clause-order : goal.returns-clause-order
returns-clause-order g c =
    subst (λ (o : OrderView). IfOk c.close.result (λ (h : HarvestView). IsSameOrder h.order o)) c.in_ok-board.ensures.order c.close.ensures.order

pub work_with_hints-seat-requires-clause-predecessors : goal.work_with_hints-seat-requires-clause-predecessors
work_with_hints-seat-requires-clause-predecessors g c κs within = c.requires ∙ sym (ap (λ (o : OrderView). vertices o) c.in_ok-board.ensures.order)
