use Rattle.std.proofs.Common.{take}
use Rattle.vpg_board.proofs.Chaining.{Added}
use Rattle.vpg_board.proofs.predecessors.add_edges.Given as goal

-- the kept ones so far
abbrev pub invariant-loop-w : goal.invariant-loop-w
invariant-loop-w l = Added l.v l.fn.last.items l.fn.edges.items (take l.w-index l.kept) l.last.items l.edges.items
