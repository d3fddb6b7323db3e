use Rattle.std.proofs.Common.{◌<◌, ◌≤◌, Bool, ap, ap₂, ◌∙◌, subst}
use Rattle.std.specs.Prelude.{IsTrue, slice_index}
use Rattle.atomic_table.specs.Seated.{TableId}
use Rattle.vpg_measure.specs.Orders.{OrderView}
use Rattle.vpg_board.specs.declared.lifter.Lifter.{Lifter}
use Rattle.vpg_board.specs.Places.{table_in, lift_in}
use Rattle.vpg_board.specs.Taken.{TakesAll, lift_steps}
use Rattle.vpg_board.specs.Seats.{BoardView, SeesMore}
use Rattle.vpg_board.proofs.Taking.{seat_sees}
use Rattle.vpg_board.proofs.board.Board.lift.Goals as goal

pub raise-requires-clause-board : goal.raise-requires-clause-board
raise-requires-clause-board c = ap (λ b. b.table) (ap (λ s. s.board) c.seat.view_is ∙ c.requires.board)

pub raise-requires-clause-order : goal.raise-requires-clause-order
raise-requires-clause-order c = ap (λ b. b.order) (ap (λ s. s.board) c.seat.view_is ∙ c.requires.board)

pub raise-requires-clause-stands : goal.raise-requires-clause-stands
raise-requires-clause-stands c = c.seat.invariant.1.stands

pub raise-requires-clause-safe : goal.raise-requires-clause-safe
raise-requires-clause-safe c = c.seat.invariant.1.safe

pub raise-requires-clause-vertex : goal.raise-requires-clause-vertex
raise-requires-clause-vertex c = c.requires.vertex

pub invariant_of-seat : goal.invariant_of-seat
invariant_of-seat c =
    let s = c.seat.inside in
    let r = c.raise.ensures in
    (r.slots ∙ c.seat.invariant.0, seat_sees s.inner.table_id c.raise.new.seat.table_id s.inner.me.0 c.raise.new.seat.me.0 s.opening s.splits s.done c.seat.invariant.1 r.table r.seen r.safe r.run)

abbrev board : TableId → OrderView → BoardView
board table order = record { table = table; order = order }

pub returns-clause-board : goal.returns-clause-board
returns-clause-board c = ap₂ board c.raise.ensures.table (ap (λ (y : Lifter). y.order) c.raise.ensures.seen.same) ∙ ap (λ s. s.board) c.seat.view_is

pub returns-clause-seen : goal.returns-clause-seen
returns-clause-seen c = subst (λ (v : Lifter). SeesMore v c.raise.new.seat.me.0) (ap (λ s. s.lifter) c.seat.view_is) c.raise.ensures.seen

pub returns-clause-safe : goal.returns-clause-safe
returns-clause-safe c = c.raise.ensures.safe

pub returns-clause-steps : goal.returns-clause-steps
returns-clause-steps c =
    subst (λ (v : Lifter). (raises : Bool) × TakesAll (lift_steps c.args.self.now.order c.args.which c.args.v raises) v c.raise.new.seat.me.0) (ap (λ s. s.lifter) c.seat.view_is) c.raise.ensures.steps

pub returns-clause-lifted : goal.returns-clause-lifted
returns-clause-lifted c =
    let order = c.args.self.now.order in
    subst (λ (v : Lifter). lift_in order c.args.which v.seen c.args.v ≤ slice_index (table_in order c.args.which c.raise.new.seat.me.0.seen) c.args.v) (ap (λ s. s.lifter) c.seat.view_is) c.raise.ensures.lifted

pub returns-clause-raised : goal.returns-clause-raised
returns-clause-raised c =
    let order = c.args.self.now.order in
    subst (λ (v : Lifter). IsTrue c.raise.result → slice_index (table_in order c.args.which v.seen) c.args.v < slice_index (table_in order c.args.which c.raise.new.seat.me.0.seen) c.args.v)
    (ap (λ s. s.lifter) c.seat.view_is) c.raise.ensures.raised
