use Rattle.std.proofs.Common.{rules}
use denote.Param.{param}
use denote.Param.Send.{IsSend, IsSync, sendable}
use Rattle.std.proofs.Crossing.{crosses}
use Rattle.vpg_office.proofs.Crossing.{office_sync}
use Rattle.vpg_scarce.proofs.office.Seat.TheSendSync.{the_send as seat_send}
use Rattle.vpg_bench.proofs.offices.day.works.Goals as goal

-- what each captured value may do stands beside the goal, since a search through all of it takes too many steps
pub join-lifted-requires-send-F : goal.join-lifted-requires-send-F
join-lifted-requires-send-F g c κs within =
    let l : IsSend (param 0 g.row.L) = search (rules, sendable) depth 20 in
    let y : IsSync (param 0 g.row.L) = search (rules, sendable) depth 20 in
    let r : IsSync g.row.R = search rules parts 8 in
    let o = office_sync (param 0 g.row.L) g.L.Terms g.L.Ledger l y in
    let s = seat_send (param 0 g.row.L) g.L.Terms g.L.Ledger in
    search (crosses, sendable) depth 60 fits 20000
