use Rattle.vpg_why.proofs.OneRepair.{repairs_are_one}
use Rattle.vpg_why.proofs.laws.repairs_are_one.Goals as goal

pub returns : goal.returns
returns c = repairs_are_one
