use Rattle.std.proofs.Common.{[], inl, inr, refl}
use Rattle.vpg_texts.specs.Scene.{scene_of}
use Rattle.vpg_why.proofs.Among.{none_among}
use Rattle.vpg_looks.specs.Answers.{TellsRetractions}
use Rattle.vpg_looks.proofs.Told.{appends}
use Rattle.vpg_looks.proofs.Trying.{tried_below}
use Rattle.vpg_looks.proofs.repairs.no_single.Goals as goal

pub tell_marked-requires-clause-named : goal.tell_marked-requires-clause-named
tell_marked-requires-clause-named c =
    rw c.names-names.ensures.names
    (tried_below c.args.order.now.diagram c.names-names.ensures.order.diagram c.args.decisions.now c.requires.named c.args.tried.now c.requires.tried.each)

pub returns-in-Yes : goal.returns-in-Yes
returns-in-Yes c =
    let order = c.args.order.now in
    appends (TellsRetractions (scene_of [] order.game order.diagram) c.args.limits c.args.vertex c.args.was_hopeless c.args.decisions.now) _
    (inr (c.in_ok-lost.ensures.yes c.in-Yes.is, refl)) c.none.result c.args.out.now.items c.none.new.out.items c.none.ensures

pub returns-in-Unsettled : goal.returns-in-Unsettled
returns-in-Unsettled c =
    let order = c.args.order.now in
    appends (TellsRetractions (scene_of [] order.game order.diagram) c.args.limits c.args.vertex c.args.was_hopeless c.args.decisions.now) _
    (inl (
      c.args.tried.now,
      c.requires.tried,
      inr (c.requires.none, inr (λ ends. c.in_ok-lost.ensures.settled (ends [] (none_among _)) c.in-Unsettled.is, refl)),
    ))
    c.tell_marked.result c.args.out.now.items c.tell_marked.new.out.items
    (rw c.names-names.ensures.names at c.tell_marked.ensures)
