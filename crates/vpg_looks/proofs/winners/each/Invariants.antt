use Rattle.std.proofs.Common.{take}
use Rattle.vpg_texts.specs.Scene.{scene_of}
use Rattle.vpg_why.specs.Explained.{choices}
use Rattle.vpg_winners.specs.Winners.{views}
use Rattle.vpg_looks.specs.Answers.{Appends, TellsPartLines}
use Rattle.vpg_looks.proofs.winners.each.Given as goal

abbrev pub invariant-loop-part : goal.invariant-loop-part
invariant-loop-part l =
    Appends (TellsPartLines (scene_of l.labels.names l.order.game l.order.diagram) l.looks l.vertex (choices l.order.decisions) (views (take l.part-index l.parts))) l.fn.out.items l.out.items
