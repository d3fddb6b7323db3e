use Rattle.vpg_board.proofs.Hinting.{pushes}
use Rattle.vpg_board.proofs.hints.Hints.give.Goals as goal

pub push_as-requires-clause-pushes : goal.push_as-requires-clause-pushes
push_as-requires-clause-pushes g c = pushes g.J.Vertices.vertices _ tt _ c.requires
