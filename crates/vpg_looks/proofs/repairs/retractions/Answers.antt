use Rattle.std.proofs.Common.{[]}
use Rattle.std.specs.Prelude.{OnOk}
use Rattle.vpg_texts.specs.Scene.{scene_of}
use Rattle.vpg_why.proofs.Among.{none_among}
use Rattle.vpg_looks.specs.Answers.{Appends, TellsRetractions}
use Rattle.vpg_looks.proofs.Trying.{tried_below}
use Rattle.vpg_looks.proofs.repairs.retractions.Goals as goal

pub tell_singles-requires : goal.tell_singles-requires
tell_singles-requires c =
    let order = c.args.order.now in
    rw (c.deref-2.ensures.value, c.names-names.ensures.names)
    (tried_below order.diagram c.names-names.ensures.order.diagram order.decisions c.names-names.ensures.order.named c.in_ok-tried.tried.items
    c.in_ok-tried.ensures.each)

pub order_under-requires : goal.order_under-requires
order_under-requires c = none_among _

pub no_single-requires-clause-reason : goal.no_single-requires-clause-reason
no_single-requires-clause-reason c = rw (c.in_ok-base.ensures.game, c.in_ok-base.ensures.diagram) c.requires.reason.0

pub returns-then-not-has_single : goal.returns-then-not-has_single
returns-then-not-has_single c =
    coe 0 1 (k. OnOk c.no_single.result (Appends
    (TellsRetractions (scene_of [] (c.in_ok-base.ensures.game k) (c.in_ok-base.ensures.diagram k)) c.args.limits c.args.vertex c.args.was_hopeless
    (c.decisions.ensures.decisions k)) c.args.out.now.items c.no_single.new.out.items)) c.no_single.ensures
