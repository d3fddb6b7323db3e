use Rattle.vpg_texts.proofs.Shown.{on_ok}
use Rattle.vpg_texts.specs.Scene.{scene_of}
use Rattle.vpg_looks.specs.Answers.{TellsVertex}
use Rattle.vpg_looks.proofs.Telling.{told_vertex}
use Rattle.vpg_looks.proofs.Told.{told_done}
use Rattle.vpg_looks.proofs.reasons.vertex.Goals as goal

pub returns : goal.returns
returns c =
    let order = c.args.order.now in
    let labels = c.args.labels.now.names in
    told_done (TellsVertex (scene_of labels order.game order.diagram) c.args.limits c.args.vertex order.decisions order.hopeful order.dual)
    c.verdict-2.result c.done.result c.done.ensures c.args.out.now.items c.verdict-2.new.out.items
    (on_ok c.verdict-2.result _ _
    (told_vertex labels order c.args.limits c.args.vertex c.args.out.now.items c.verdict.new.out.items c.verdict-2.new.out.items c.in_ok-verdict.ensures) c.verdict-2.ensures)
