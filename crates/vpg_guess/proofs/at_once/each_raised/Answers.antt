use denote.Param.Send.{sendable}
use Rattle.std.proofs.Crossing.{crosses}
use Rattle.vpg_measure.proofs.Crossing.{order_sync}
use Rattle.vpg_guess.proofs.at_once.each_raised.Goals as goal

-- what the order may do stands beside the goal, since a search through all of it takes too many steps
pub join-requires-send-F : goal.join-requires-send-F
join-requires-send-F g c κs within =
    let o = order_sync in
    search (crosses, sendable) depth 60 fits 20000
