use Rattle.std.proofs.Common.{◌+◌, sym, ap, ap₂, ◌∙◌, subst, false, arith}
use Rattle.atomic_table.specs.Seated.{TableId}
use Rattle.vpg_board.specs.declared.lifter.Lifter.{Lifter}
use Rattle.vpg_board.specs.Lifters.{splits, newcomer}
use Rattle.vpg_board.specs.Run.{split}
use Rattle.vpg_board.specs.Taken.{IsOnBoard, Takes}
use Rattle.vpg_board.specs.Seats.{BoardView, IsSeat}
use Rattle.vpg_board.proofs.Atomic.{splitting}
use Rattle.vpg_board.proofs.Taking.{takes_split, on_board_newcomer, seat_splits, seat_newcomer}
use Rattle.vpg_measure.specs.Orders.{OrderView}
use Rattle.vpg_board.proofs.board.Board.split.Goals as goal

pub split_seat-inner-requires : goal.split_seat-inner-requires
split_seat-inner-requires c =
    let i = c.seat.invariant.1 in
    let same = ap (λ v. v.board) c.seat.view_is ∙ c.requires ∙ sym c.self.view_is in (
      ap (λ b. b.table) same,
      omega (arith, c.self.invariant.words),
      splitting c.self.inside.table.shared.key _ _ i.stands (i.opens ∙ c.if-not-seat.false) (omega (arith, i.splits, c.if-seat-ge63.false)),
    )

pub invariant_of-seat : goal.invariant_of-seat
invariant_of-seat c =
    let i = c.seat.invariant.1 in
    let e = c.split_seat-inner.ensures in
    let s = c.seat.inside in
    let kept = seat_splits s.inner.table_id s.inner.me.0 s.opening s.splits s.done i (i.opens ∙ c.if-not-seat.false) (omega (arith, i.splits, c.if-seat-ge63.false)) in (
      ap (λ m. m.1) e.2 ∙ c.seat.invariant.0,
      subst (λ (t : TableId). IsSeat t c.split_seat-inner.new.seat.me.0 s.opening (s.splits + 1) s.done) (sym e.0)
          (subst (λ (v : Lifter). IsSeat s.inner.table_id v s.opening (s.splits + 1) s.done) (sym (ap (λ m. m.0) e.2)) kept),
    )

pub invariant_of-result : goal.invariant_of-result
invariant_of-result c =
    let i = c.seat.invariant.1 in
    let e = c.split_seat-inner.ensures in
    let s = c.seat.inside in
    let new = seat_newcomer s.inner.table_id s.inner.me.0 s.opening s.splits s.done i (i.opens ∙ c.if-not-seat.false) (omega (arith, i.splits, c.if-seat-ge63.false)) in (
      ap (λ m. m.1) e.4,
      subst (λ (t : TableId). IsSeat t c.split_seat-inner.result.me.0 false 0 false) (sym e.3)
          (subst (λ (v : Lifter). IsSeat s.inner.table_id v false 0 false) (sym (ap (λ m. m.0) e.4)) new),
    )

pub returns-clause-step : goal.returns-clause-step
returns-clause-step c =
    let i = c.seat.invariant.1 in
    let step = takes_split c.seat.inside.inner.me.0 i.run i.stands (i.opens ∙ c.if-not-seat.false) (omega (arith, i.splits, c.if-seat-ge63.false)) in
    subst (λ (v : Lifter). Takes split v c.split_seat-inner.new.seat.me.0) (ap (λ s. s.lifter) c.seat.view_is)
    (subst (Takes split c.seat.inside.inner.me.0) (sym (ap (λ m. m.0) c.split_seat-inner.ensures.2)) step)

pub returns-clause-run : goal.returns-clause-run
returns-clause-run c =
    let i = c.seat.invariant.1 in
    subst IsOnBoard (sym (ap (λ m. m.0) c.split_seat-inner.ensures.4))
    (on_board_newcomer c.seat.inside.inner.me.0 i.run i.stands (i.opens ∙ c.if-not-seat.false) (omega (arith, i.splits, c.if-seat-ge63.false)))

abbrev board : TableId → OrderView → BoardView
board table order = record { table = table; order = order }

pub returns-clause-other : goal.returns-clause-other
returns-clause-other c =
    let e = c.split_seat-inner.ensures in
    (ap₂ board e.3 (ap (λ m. m.0.order) e.4) ∙ ap (λ s. s.board) c.seat.view_is, ap (λ m. m.0) e.4 ∙ ap (λ s. newcomer s.lifter) c.seat.view_is)

pub returns-clause-board : goal.returns-clause-board
returns-clause-board c =
    let e = c.split_seat-inner.ensures in
    ap₂ board e.0 (ap (λ m. m.0.order) e.2) ∙ ap (λ s. s.board) c.seat.view_is

pub returns-clause-split : goal.returns-clause-split
returns-clause-split c = ap (λ m. m.0) c.split_seat-inner.ensures.2 ∙ ap (λ s. splits s.lifter) c.seat.view_is
