use Rattle.vpg_hope.proofs.Edges.{edges_inside}
use Rattle.vpg_determined.proofs.Winning.{uniformly_determined}
use Rattle.vpg_determined.proofs.laws.one_strategy_serves_both.Goals as goal

pub returns : goal.returns
returns c = λ game closed. uniformly_determined game (edges_inside game closed)
