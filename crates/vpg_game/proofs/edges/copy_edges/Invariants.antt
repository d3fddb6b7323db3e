use Rattle.std.proofs.Common.{◌≡◌, take}
use Rattle.vpg_game.proofs.edges.copy_edges.Given as goal

abbrev pub invariant-loop-edge : goal.invariant-loop-edge
invariant-loop-edge l = l.copy.items ≡ take l.edge-index l.edges
