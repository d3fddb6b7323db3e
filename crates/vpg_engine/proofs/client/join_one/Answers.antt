use Rattle.vpg_engine.proofs.Seats.{pushed}
use Rattle.vpg_engine.proofs.client.join_one.Goals as goal

pub returns-clause-joined : goal.returns-clause-joined
returns-clause-joined g c = pushed c.args.sessions.now.items c.reserve.new.self.items c.push_reserved.new.self.items c.in-Ok.session c.number-number.result c.reserve.ensures.items c.push_reserved.ensures.items c.number-number.ensures.number c.in-Ok.ensures.fresh
