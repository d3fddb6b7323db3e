use Rattle.std.proofs.Common.{Some}
use Rattle.vpg_texts.proofs.Shown.{on_ok}
use Rattle.vpg_texts.specs.Scene.{scene_of}
use Rattle.vpg_looks.specs.Answers.{TellsTraced}
use Rattle.vpg_looks.proofs.Told.{told_done}
use Rattle.vpg_looks.proofs.traces.trace.Goals as goal

pub returns : goal.returns
returns c =
    let order = c.args.order.now in
    let page = scene_of c.args.labels.now.names order.game order.diagram in
    rw c.in-Some.is
    (told_done (TellsTraced (Some c.in-Some.behaviour) page c.args.limits c.args.vertex order.decisions order.hopeful order.dual)
    c.put_answer.result c.done.result c.done.ensures c.args.out.now.items c.put_answer.new.out.items
    (on_ok c.put_answer.result _ _ (λ told. (told.0, (told.1, told.2)))
    (rw (c.deref.ensures.value, c.in_ok-put_beside-in-Some.ensures, c.new-beside.ensures.items, c.name.ensures) at c.put_answer.ensures)))
