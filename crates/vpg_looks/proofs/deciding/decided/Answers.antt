use Rattle.vpg_texts.specs.Scene.{scene_of}
use Rattle.vpg_looks.specs.Answers.{TellsDecided}
use Rattle.vpg_looks.proofs.Parting.{decided_told}
use Rattle.vpg_looks.proofs.Told.{told_text}
use Rattle.vpg_looks.proofs.deciding.decided.Goals as goal

pub returns : goal.returns
returns c =
    let order = c.args.order.now in
    let labels = c.args.labels.now.names in
    let found = c.in_ok-found.ensures in
    told_text (TellsDecided (scene_of labels order.game order.diagram) c.args.limits c.args.vertex order.decisions) _
    (decided_told labels order c.args.limits c.args.vertex c.in_ok-found.found found.decided (λ r. found.settled r.0 r.1))
    c.tell.result c.done.result c.done.ensures c.args.out.now.items c.tell.new.out.items
    (rw (c.names-names.ensures.names, c.identifier-identifier.ensures, c.name.ensures) at c.tell.ensures)
