use Rattle.vpg_trace.proofs.Told.{winners_go_on}
use Rattle.vpg_trace.proofs.laws.winners_go_on.Goals as goal

pub returns : goal.returns
returns c = winners_go_on
