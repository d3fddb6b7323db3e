use Rattle.vpg_measure.proofs.MeasureProgs.{prog_unique}
use Rattle.vpg_measure.proofs.laws.measures.prog_is_unique.Goals as goal

pub returns : goal.returns
returns c = prog_unique
