use Rattle.std.proofs.Common.{rules, sym, subst, arith}
use denote.Param.{param}
use denote.Param.Send.{IsSync, sendable}
use Rattle.std.proofs.Crossing.{crosses}
use Rattle.vpg_board.specs.declared.lifter.Lifter.{Lifter}
use Rattle.vpg_board.specs.Worked.{Works, HasWorked}
use Rattle.vpg_board.proofs.Sharing.{board_sync}
use Rattle.vpg_board.proofs.Working.{has_worked_both}
use Rattle.vpg_board.proofs.seat.Seat.TheSendSync as seat
use Rattle.vpg_board.proofs.hints.Hints.TheSendSync as hints
use Rattle.vpg_board.proofs.predecessors.Predecessors.TheSendSync as predecessors
use Rattle.vpg_board.specs.Seats.{SeatView}
use Rattle.vpg_board.proofs.sweeping.+fn-work_together-join+arg3+work_together.Goals as goal

-- what each captured value may do stands beside the goal, since a search through all of it takes too many steps
pub join-other-requires-send-F : goal.join-other-requires-send-F
join-other-requires-send-F g t c κs within =
    let r : IsSync g.row.R = search rules parts 8 in
    let q : IsSync g.row.G = search rules parts 8 in
    let h = hints.the_send (param 0 g.row.J) g.J.Vertices in
    let b = board_sync in
    let s = seat.the_send in
    let p = predecessors.the_sync in
    search (crosses, sendable) depth 60 fits 20000

pub returns : goal.returns
returns g t c =
    let split = c.in-Some.ensures.split in
    let j = c.join.ensures in
    let both = c.join-other.ensures in
    has_worked_both c.args.board.now c.args.seat.lifter c.join-other.result.1 c.join-other.result.0 c.join.new.seat
    (subst (λ (v : Lifter). HasWorked c.args.board.now v c.join-other.result.1) split.0 both.second)
    (subst (λ (v : Lifter). HasWorked c.args.board.now v c.join-other.result.0) split.1 both.first)
    j.board j.both j.safe j.all

pub work-requires-clause-works : goal.work-requires-clause-works
work-requires-clause-works g t c = subst (Works c.args.board.now) (sym c.in_default.ensures.same) c.requires.works

pub returns-in_default : goal.returns-in_default
returns-in_default g t c =
    subst (λ (s : SeatView). HasWorked c.args.board.now s.lifter c.work.result) c.in_default.ensures.same c.work.ensures

pub work-requires-clause-game : goal.work-requires-clause-game
work-requires-clause-game g t c = c.requires.game

pub work-requires-clause-predecessors : goal.work-requires-clause-predecessors
work-requires-clause-predecessors g t c = c.requires.predecessors

pub join-requires-clause-board : goal.join-requires-clause-board
join-requires-clause-board g t c = c.join-other.ensures.second.works.board_is

pub join-requires-clause-other : goal.join-requires-clause-other
join-requires-clause-other g t c = c.join-other.ensures.first.works.board_is

pub overflow_sub-rest : goal.overflow_sub-rest
overflow_sub-rest g t c = let more = c.in-Some.ensures.more in omega arith
