use Rattle.std.proofs.Common.{rules}
use denote.Param.Send.{IsSync, sendable}
use Rattle.std.proofs.Crossing.{crosses}
use Rattle.vpg_board.proofs.Sharing.{board_sync}
use Rattle.vpg_board.proofs.seat.Seat.TheSendSync as seat
use Rattle.vpg_lifting_tests.proofs.boards.claims_of_two.Goals as goal

-- what each captured value may do stands beside the goal, since a search through all of it takes too many steps
pub join-one-requires-send-F : goal.join-one-requires-send-F
join-one-requires-send-F g c κs within =
    let r : IsSync g.row.R = search rules parts 8 in
    let b = board_sync in
    let s = seat.the_send in
    search (crosses, sendable) depth 60 fits 20000
