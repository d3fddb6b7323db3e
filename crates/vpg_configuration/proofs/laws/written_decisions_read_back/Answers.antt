use Rattle.vpg_configuration.proofs.PagesBack.{decisions_read}
use Rattle.vpg_configuration.proofs.laws.written_decisions_read_back.Goals as goal

pub returns : goal.returns
returns c = decisions_read
