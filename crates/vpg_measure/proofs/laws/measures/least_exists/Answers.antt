use Rattle.vpg_hope.proofs.Edges.{edges_inside}
use Rattle.vpg_measure.proofs.Least.{least_exists}
use Rattle.vpg_measure.proofs.laws.measures.least_exists.Goals as goal

pub returns : goal.returns
returns c = λ shape game closed. least_exists shape game (edges_inside game closed)
