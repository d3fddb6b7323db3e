use Rattle.std.proofs.Common.{[], IsTrue}
use Rattle.vpg_texts.specs.Scene.{scene_of}
use Rattle.vpg_sides.specs.declared.which.Which.TheVariants.{Hopeful}
use Rattle.vpg_why.specs.Explained.{choices}
use Rattle.vpg_why.specs.declared.question.Aim.TheVariants as aims
use Rattle.vpg_why.proofs.KeepingOldest.{IsGoing, IsOwn}
use Rattle.vpg_looks.specs.Repairs.{IsLostBy}
use Rattle.vpg_looks.specs.Room.{EachSearchEnds}
use Rattle.vpg_looks.proofs.retracting.give_up.Given as goal

abbrev pub invariant-deciding : goal.invariant-deciding
invariant-deciding l =
    IsGoing (IsLostBy (scene_of [] l.order.game l.order.diagram) l.vertex) (IsOwn l.order.diagram.lines l.decisions) l.decisions l.kept.items l.given.items l.d-index l.sure
    × (EachSearchEnds (scene_of [] l.order.game l.order.diagram) l.limits (aims.Won Hopeful l.vertex) (choices l.decisions) → IsTrue l.sure)
