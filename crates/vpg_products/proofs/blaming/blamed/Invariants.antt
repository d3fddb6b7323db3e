use Rattle.std.proofs.Common.{◌≡◌, length}
use Rattle.vpg_diagram.specs.FeatureDiagram.{feature_count}
use Rattle.vpg_products.proofs.blaming.blamed.Given as goal

abbrev pub invariant-loop-step : goal.invariant-loop-step
invariant-loop-step l = length l.marks.items ≡ feature_count l.diagram.lines
