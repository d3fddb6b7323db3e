use Rattle.std.proofs.Common.{take}
use Rattle.vpg_warnings.specs.Guards.{AreTriedOf}
use Rattle.vpg_warnings.proofs.guards.tried_of.Given as goal

abbrev pub invariant-loop-feature : goal.invariant-loop-feature
invariant-loop-feature l = AreTriedOf (take l.feature-index l.named) l.features.items
