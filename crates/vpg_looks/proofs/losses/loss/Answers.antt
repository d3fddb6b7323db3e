use Rattle.vpg_texts.specs.Scene.{scene_of}
use Rattle.vpg_looks.specs.Answers.{TellsLost}
use Rattle.vpg_looks.proofs.Telling.{loss_told}
use Rattle.vpg_looks.proofs.Told.{told_text}
use Rattle.vpg_looks.proofs.losses.loss.Goals as goal

pub returns : goal.returns
returns c =
    let order = c.args.order.now in
    let labels = c.args.labels.now.names in
    let found = c.in_ok-found.ensures in
    told_text (TellsLost (scene_of labels order.game order.diagram) c.args.limits c.args.aim order.decisions) _
    (loss_told labels order c.args.limits c.args.aim c.in_ok-found.found found.why found.settled found.exact)
    c.tell_why.result c.done.result c.done.ensures c.args.out.now.items c.tell_why.new.out.items c.tell_why.ensures
