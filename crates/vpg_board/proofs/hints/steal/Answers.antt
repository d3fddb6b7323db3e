use Rattle.std.proofs.Common.{arith}
use Rattle.vpg_board.proofs.Hinting.{takes}
use Rattle.vpg_board.proofs.hints.steal.Goals as goal

pub steal_as-requires-clause-takes : goal.steal_as-requires-clause-takes
steal_as-requires-clause-takes g c = takes g.J.Vertices.vertices _ tt 1

pub returns-in-Success : goal.returns-in-Success
returns-in-Success g c = c.in-Success.ensures.rule 0 c.in-Success.hint (omega arith)
