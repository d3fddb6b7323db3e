use Rattle.vpg_hope.proofs.Edges.{edges_inside}
use Rattle.vpg_measure.proofs.Verdicts.{least_decides}
use Rattle.vpg_measure.proofs.laws.measures.least_decides.Goals as goal

pub returns : goal.returns
returns c = λ shape game table closed. least_decides shape game table (edges_inside game closed)
