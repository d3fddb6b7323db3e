use Rattle.vpg_meaning.proofs.Naming.{entries_stand_for_formulas}
use Rattle.vpg_meaning.proofs.laws.entries_stand_for_formulas.Goals as goal

pub returns : goal.returns
returns c = entries_stand_for_formulas
