use Rattle.vpg_model.proofs.Preorder.{chained_parts_stand}
use Rattle.vpg_model.proofs.laws.chained_parts_stand.Goals as goal

pub returns : goal.returns
returns c = chained_parts_stand
