use Rattle.vpg_script.proofs.Nameless.{none_meant}
use Rattle.vpg_script.proofs.laws.a_request_means_itself.Goals as goal

pub returns : goal.returns
returns c = none_meant
