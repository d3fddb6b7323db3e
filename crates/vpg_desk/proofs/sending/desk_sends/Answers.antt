use denote.Param.Send.{sendable}
use Rattle.vpg_desk.proofs.Crossing.{desk_send}
use Rattle.vpg_desk.proofs.sending.desk_sends.Goals as goal

pub sends-requires-send-T : goal.sends-requires-send-T
sends-requires-send-T c κs = search (desk_send, sendable) depth 20
