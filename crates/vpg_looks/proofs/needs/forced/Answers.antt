use Rattle.std.proofs.Common.{[]}
use Rattle.vpg_texts.specs.Scene.{scene_of}
use Rattle.vpg_looks.specs.Answers.{TellsForced}
use Rattle.vpg_looks.proofs.Telling.{forced_told}
use Rattle.vpg_looks.proofs.Told.{told_text}
use Rattle.vpg_looks.proofs.needs.forced.Goals as goal

pub returns : goal.returns
returns c =
    let order = c.args.order.now in
    let found = c.in_ok-found.ensures in
    told_text (TellsForced (scene_of [] order.game order.diagram) c.args.limits c.args.aim order.decisions) _
    (forced_told [] order c.args.limits c.args.aim c.in_ok-found.found found.needs found.settled)
    c.tell_demand.result c.done.result c.done.ensures c.args.out.now.items c.tell_demand.new.out.items c.tell_demand.ensures
