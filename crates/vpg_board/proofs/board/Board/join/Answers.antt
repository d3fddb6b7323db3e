use Rattle.std.proofs.Common.{◌≡◌, ◌<◌, Bool, ◌||◌, sym, ap, ap₂, ◌∙◌, subst, arith}
use Rattle.vpg_measure.specs.Orders.{OrderView, IsOrder}
use Rattle.vpg_board.specs.declared.lifter.Lifter.{Lifter}
use Rattle.vpg_board.specs.Lifters.{both}
use Rattle.vpg_board.proofs.Atomic.{joining, looks}
use Rattle.atomic_table.specs.Seated.{TableId}
use Rattle.vpg_board.specs.Seats.{BoardView}
use Rattle.vpg_board.proofs.Taking.{seat_both}
use Rattle.vpg_board.proofs.board.Board.join.Goals as goal
use Rattle.vpg_board.proofs.board.Board.join.Goals.{then-seat, else-seat, then-seat-2, else-seat-2}

pub join_seat-requires : goal.join_seat-requires
join_seat-requires c =
    let same = ap (λ v. v.board) c.seat.view_is ∙ c.requires.board ∙ sym c.self.view_is in
    let same' = ap (λ v. v.board) c.other.view_is ∙ c.requires.other ∙ sym c.self.view_is in (
      ap (λ b. b.table) same,
      ap (λ b. b.table) same',
      c.other.invariant.0,
      omega (arith, c.self.invariant.words),
      joining c.self.inside.table.shared.key _ _ _ _ c.seat.invariant.1.stands c.other.invariant.1.stands,
    )

pub load-requires : goal.load-requires
load-requires c =
    let same = ap (λ v. v.board) c.seat.view_is ∙ c.requires.board ∙ sym c.self.view_is in
    let is_order = subst IsOrder (sym c.self.invariant.key) c.self.invariant.order in
    let is = ap (λ m. m.0) c.join_seat.ensures.2 in
    let more : 0 < (both c.seat.inside.inner.me.0 c.other.inside.inner.me.0).stands = omega (arith, c.seat.invariant.1.stands) in (
      c.join_seat.ensures.0 ∙ ap (λ b. b.table) same,
      omega (arith, c.self.invariant.words),
      looks c.self.inside.table.shared.key is_order _ _ _ (subst (λ (v : Lifter). 0 < v.stands) (sym is) more),
    )

pub returns-clause-safe : goal.returns-clause-safe
returns-clause-safe c = c.load.ensures.2.1

pub returns-clause-run : goal.returns-clause-run
returns-clause-run c = c.load.ensures.2.3

pub returns-clause-once : goal.returns-clause-once
returns-clause-once c = c.load.ensures.2.2.once

pub returns-clause-all : goal.returns-clause-all
returns-clause-all c = c.load.ensures.2.2.all

pub returns-clause-both : goal.returns-clause-both
returns-clause-both c =
    ap (λ m. m.0) (c.load.ensures.2.0 ∙ c.join_seat.ensures.2)
    ∙ ap₂ (λ (v w : Lifter). both v w) (ap (λ s. s.lifter) c.seat.view_is) (ap (λ s. s.lifter) c.other.view_is)

abbrev board : TableId → OrderView → BoardView
board table order = record { table = table; order = order }

pub returns-clause-board : goal.returns-clause-board
returns-clause-board c =
    ap₂ board (c.load.ensures.0 ∙ c.join_seat.ensures.0) (ap (λ m. m.0.order) (c.load.ensures.2.0 ∙ c.join_seat.ensures.2)) ∙ ap (λ s. s.board) c.seat.view_is

pub invariant_of-seat : goal.invariant_of-seat
invariant_of-seat c =
    let s = c.seat.inside in
    let o = c.other.inside in
    let l = c.load.ensures in
    let j = c.join_seat.ensures in
    let opening : c.if-seat.seat ≡ (s.opening || o.opening) = elim c.if-seat.branch [
      | then-seat w ↦ w.seat-is ∙ w.if-seat.true ∙ sym (ap (λ (a : Bool). a || o.opening) w.if-seat.true)
      | else-seat w ↦ w.seat-is ∙ sym (ap (λ (a : Bool). a || o.opening) w.if-seat.false)
    ] in
    let done : c.if-seat-2.seat ≡ (s.done || o.done) = elim c.if-seat-2.branch [
      | then-seat-2 w ↦ w.seat-is ∙ w.if-seat-2.true ∙ sym (ap (λ (a : Bool). a || o.done) w.if-seat-2.true)
      | else-seat-2 w ↦ w.seat-is ∙ sym (ap (λ (a : Bool). a || o.done) w.if-seat-2.false)
    ] in (
      ap (λ m. m.1) (l.2.0 ∙ j.2) ∙ c.seat.invariant.0,
      seat_both s.inner.table_id o.inner.table_id c.load.new.seat.table_id s.inner.me.0 o.inner.me.0 c.load.new.seat.me.0 s.opening o.opening c.if-seat.seat s.splits o.splits s.done o.done c.if-seat-2.seat
          c.seat.invariant.1 c.other.invariant.1 (l.0 ∙ j.0) (ap (λ m. m.0) (l.2.0 ∙ j.2)) l.2.1 l.2.2 l.2.3 opening done,
    )
