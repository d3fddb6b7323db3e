use Rattle.vpg_hope.proofs.Edges.{edges_inside}
use Rattle.vpg_measure.proofs.Verdicts.{least_prog_wins}
use Rattle.vpg_measure.proofs.laws.measures.least_prog_wins.Goals as goal

pub returns : goal.returns
returns c = λ shape game table strategy closed. least_prog_wins shape game table strategy (edges_inside game closed)
