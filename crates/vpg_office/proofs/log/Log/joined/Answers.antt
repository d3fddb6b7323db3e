use Rattle.vpg_office.proofs.Calling.{few_tokens}
use Rattle.vpg_office.proofs.log.Log.joined.Goals as goal

pub seat-requires : goal.seat-requires
seat-requires g c = few_tokens c.self.invariant
