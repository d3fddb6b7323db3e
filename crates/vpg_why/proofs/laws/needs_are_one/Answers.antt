use Rattle.vpg_why.proofs.InOrder.{needs_are_one}
use Rattle.vpg_why.proofs.laws.needs_are_one.Goals as goal

pub returns : goal.returns
returns c = needs_are_one
