use Rattle.vpg_configuration.proofs.PagesBack.{names_read}
use Rattle.vpg_configuration.proofs.laws.written_names_read_back.Goals as goal

pub returns : goal.returns
returns c = names_read
