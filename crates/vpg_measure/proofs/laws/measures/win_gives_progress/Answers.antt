use Rattle.vpg_hope.proofs.Edges.{edges_inside}
use Rattle.vpg_measure.proofs.Least.{win_gives_progress}
use Rattle.vpg_measure.proofs.laws.measures.win_gives_progress.Goals as goal

pub returns : goal.returns
returns c = λ shape game strategy v closed. win_gives_progress shape game strategy v (edges_inside game closed)
