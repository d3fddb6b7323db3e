use Rattle.std.proofs.Common.{◌≡◌, ◌++◌, take}
use Rattle.vpg_hope.specs.Kept.{kept_under}
use Rattle.vpg_hope.proofs.selection.Selection.push_kept.Given as goal

abbrev pub invariant-loop-edge : goal.invariant-loop-edge
invariant-loop-edge l = l.successors.items ≡ l.initial.successors.items ++ kept_under l.self l.owner (take l.edge-index l.edges)
