use Rattle.std.proofs.Common.{refl}
use Rattle.vpg_why.specs.Explained.{choices}
use Rattle.vpg_why.proofs.ByFeatures.{none_left}
use Rattle.vpg_why.proofs.features.glance_on.Goals as goal

pub reason_on-requires-clause-lost : goal.reason_on-requires-clause-lost
reason_on-requires-clause-lost c = λ game. none_left game c.args.diagram.now (choices c.args.decisions.now) c.args.known.now c.requires.shown ((rw c.in-Some.is at c.in_ok-fails.ensures.fails) refl)
