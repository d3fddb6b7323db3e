use Rattle.std.proofs.Common.{◌≡◌, ◌++◌}
use Rattle.vpg_draw.specs.FeatureDrawing.{features_text}
use Rattle.vpg_draw.proofs.features.features.Given as goal

abbrev pub invariant-loop-f : goal.invariant-loop-f
invariant-loop-f l = l.out.items ≡ l.fn.out.items ++ features_text l.names l.known l.f
