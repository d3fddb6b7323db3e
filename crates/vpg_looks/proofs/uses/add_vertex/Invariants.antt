use Rattle.std.proofs.Common.{◌≡◌, ◌++◌, take}
use Rattle.std.specs.Prelude.{flat_map}
use Rattle.vpg_looks.specs.Uses.{use_at}
use Rattle.vpg_looks.proofs.uses.add_vertex.Given as goal

abbrev pub invariant-loop-edge : goal.invariant-loop-edge
invariant-loop-edge l =
    l.listed.items ≡ l.fn.listed.items ++ flat_map (use_at l.feature l.vertex) (take l.edge-index l.edges)
