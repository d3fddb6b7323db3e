use Rattle.vpg_measure.proofs.MeasureProgs.{prog_exists}
use Rattle.vpg_measure.proofs.laws.measures.prog_exists.Goals as goal

pub returns : goal.returns
returns c = prog_exists
