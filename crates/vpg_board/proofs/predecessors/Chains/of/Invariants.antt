use Rattle.vpg_board.proofs.Chaining.{Filled}
use Rattle.vpg_board.proofs.predecessors.Chains.of.Given as goal

-- the edges of the vertices so far
abbrev pub invariant-vertices : goal.invariant-vertices
invariant-vertices l = Filled l.arena l.v l.last.items l.edges.items
