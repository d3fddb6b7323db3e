use Rattle.std.proofs.Common.{◌≡◌, ◌++◌, drop}
use Rattle.vpg_game.specs.Writing.{vertices_text}
use Rattle.vpg_game.proofs.writing.put_vertices.Given as goal

-- what is written and what is still to write is the whole
abbrev pub invariant-loop-vertex : goal.invariant-loop-vertex
invariant-loop-vertex l =
    l.out.items ++ vertices_text l.names l.vertices (drop l.vertex-index l.vertices) ≡ l.initial.out.items ++ vertices_text l.names l.vertices l.vertices
