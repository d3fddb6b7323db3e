use Rattle.std.proofs.Common.{[]}
use Rattle.vpg_texts.specs.Scene.{scene_of}
use Rattle.vpg_looks.specs.Answers.{TellsExample}
use Rattle.vpg_looks.proofs.Telling.{example_told}
use Rattle.vpg_looks.proofs.Told.{told_text}
use Rattle.vpg_looks.proofs.examples.example.Goals as goal

pub returns : goal.returns
returns c =
    let order = c.args.order.now in
    let found = c.in_ok-found.ensures in
    told_text (TellsExample (scene_of [] order.game order.diagram) c.args.limits c.args.aim order.decisions) _
    (example_told [] order c.args.limits c.args.aim c.in_ok-found.found found.found found.settled)
    c.tell.result c.done.result c.done.ensures c.args.out.now.items c.tell.new.out.items
    (rw c.names-names.ensures.names at c.tell.ensures)
