use Rattle.vpg_hope.proofs.Edges.{edges_inside}
use Rattle.vpg_determined.proofs.Winning.{determined}
use Rattle.vpg_determined.proofs.laws.games_are_determined.Goals as goal

pub returns : goal.returns
returns c = λ game v closed inside. determined game v (edges_inside game closed) inside
