use Rattle.vpg_hope.proofs.Edges.{edges_inside}
use Rattle.vpg_measure.proofs.Verdicts.{progress_wins}
use Rattle.vpg_measure.proofs.laws.measures.progress_wins.Goals as goal

pub returns : goal.returns
returns c = λ shape game table closed. progress_wins shape game table (edges_inside game closed)
