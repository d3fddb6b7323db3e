use Rattle.std.proofs.Common.{refl}
use Rattle.vpg_texts.specs.Scene.{scene_of}
use Rattle.vpg_why.specs.Explained.{choices}
use Rattle.vpg_winners.specs.Winners.{view_of}
use Rattle.vpg_looks.specs.Answers.{TellsPartLine}
use Rattle.vpg_looks.proofs.Telling.{needs_below}
use Rattle.vpg_looks.proofs.Told.{appends}
use Rattle.vpg_looks.proofs.winners.counted.Goals as goal

pub part_line-requires : goal.part_line-requires
part_line-requires c =
    rw c.names-names.ensures.names
    (needs_below c.args.order.now c.names-names.ensures.order c.args.part.now.literals.items c.requires.named)

pub returns : goal.returns
returns c =
    let order = c.args.order.now in
    appends (TellsPartLine (scene_of c.args.labels.now.names order.game order.diagram) c.args.looks c.args.vertex (choices order.decisions) (view_of c.args.part.now)) _
    (c.in_ok-count.count, c.in_ok-count.ensures, refl) c.part_line.result c.args.out.now.items c.part_line.new.out.items
    (rw (c.names-names.ensures.names, c.identifier-identifier.ensures, c.name-label.ensures) at c.part_line.ensures)
