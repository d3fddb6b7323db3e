use Rattle.std.proofs.Common.{take}
use Rattle.vpg_model.specs.Sharpening.{AreSharpEntries}
use Rattle.vpg_model.proofs.sharpening.sharp_entries.Given as goal

abbrev pub invariant-loop-v : goal.invariant-loop-v
invariant-loop-v l = AreSharpEntries l.game.features (take l.v l.game.vertices) l.entries.items
