use Rattle.vpg_engine.proofs.Logged.{one_kind}
use Rattle.vpg_engine.proofs.held.hold_strayed.Goals as goal

pub returns : goal.returns
returns g c = λ call is. absurd (one_kind c.args.back c.in-Given.undo call c.in-Given.is is)
