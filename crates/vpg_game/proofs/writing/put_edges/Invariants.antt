use Rattle.std.proofs.Common.{◌≡◌, ◌++◌, drop}
use Rattle.vpg_game.specs.Writing.{edges_behind}
use Rattle.vpg_game.proofs.writing.put_edges.Given as goal

-- what is written and what is still to write is the whole
abbrev pub invariant-loop-edge : goal.invariant-loop-edge
invariant-loop-edge l =
    l.out.items ++ edges_behind l.names l.vertices l.sign (drop l.edge-index l.edges) ≡ l.initial.out.items ++ edges_behind l.names l.vertices 32 l.edges
