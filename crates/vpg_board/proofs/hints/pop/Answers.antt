use Rattle.vpg_board.proofs.Hinting.{takes, pops, head}
use Rattle.vpg_board.proofs.hints.pop.Goals as goal

pub pop_as-requires-clause-fifo : goal.pop_as-requires-clause-fifo
pop_as-requires-clause-fifo g c = λ _. takes g.J.Vertices.vertices _ tt 1

pub pop_as-requires-clause-lifo : goal.pop_as-requires-clause-lifo
pop_as-requires-clause-lifo g c = λ _. pops g.J.Vertices.vertices _ tt

pub returns : goal.returns
returns g c = head g.J.Vertices.vertices c.pop_as.result _ c.pop_as.ensures.rule
