use Rattle.std.proofs.Common.{[]}
use Rattle.std.specs.Prelude.{◌≤◌, length}
use Rattle.vpg_texts.specs.Scene.{scene_of}
use Rattle.vpg_looks.specs.Repairs.{AreTried}
use Rattle.vpg_looks.proofs.retracting.tries.Given as goal

abbrev pub invariant-trying : goal.invariant-trying
invariant-trying l =
    AreTried (scene_of [] l.order.game l.order.diagram) l.limits l.vertex l.was_hopeless l.order.decisions l.place l.tried.items × (l.place ≤ length l.order.decisions)
