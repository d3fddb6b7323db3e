use Rattle.std.proofs.Common.{◌≡◌, map, take}
use Rattle.vpg_script.specs.Calling.{meant_vertex}
use Rattle.vpg_script.specs.View.{vertex_shown}
use Rattle.vpg_script.proofs.meaning.meant_vertices.Given as goal

abbrev pub invariant-loop-vertex : goal.invariant-loop-vertex
invariant-loop-vertex l =
    map vertex_shown l.numbered.items ≡ map (meant_vertex l.callings) (map vertex_shown (take l.vertex-index l.vertices))
