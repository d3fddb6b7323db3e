use Rattle.std.proofs.Common.{take}
use Rattle.vpg_model.specs.Sharpening.{AreSharpSuccessors}
use Rattle.vpg_model.proofs.sharpening.sharp_successors.Given as goal

abbrev pub invariant-loop-edge : goal.invariant-loop-edge
invariant-loop-edge l = AreSharpSuccessors l.features (take l.edge-index l.edges) l.successors.items
