use denote.Param.Send.{sendable}
use Rattle.std.proofs.Crossing.{crosses}
use Rattle.vpg_office.proofs.Crossing.{office_crosses}
use Rattle.vpg_office.proofs.sharing.may_be_shared.Goals as goal

pub shared-requires-sync-T : goal.shared-requires-sync-T
shared-requires-sync-T g c κs within = search (office_crosses, sendable, crosses) depth 40
