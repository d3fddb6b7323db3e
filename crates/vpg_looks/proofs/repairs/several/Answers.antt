use Rattle.std.proofs.Common.{◌≡◌, [], ◌++◌, ◌<◌, length, inl, inr, refl}
use Rattle.std.specs.Prelude.{OnOk}
use Rattle.vpg_diagram.specs.FeatureDiagram.{feature_count}
use Rattle.vpg_texts.specs.Scene.{scene_of}
use Rattle.vpg_texts.proofs.Shown.{named_below}
use Rattle.vpg_looks.specs.Answers.{TellsRetractions}
use Rattle.vpg_looks.specs.Repairs.{IsLostBy}
use Rattle.vpg_looks.specs.Texts.{several_text}
use Rattle.vpg_looks.proofs.Told.{appends}
use Rattle.vpg_looks.proofs.Trying.{given_named, tried_below}
use Rattle.vpg_looks.proofs.repairs.several.Goals as goal

pub tell_several-requires-clause-given : goal.tell_several-requires-clause-given
tell_several-requires-clause-given c =
    let order = c.args.order.now in
    rw (c.deref.ensures.value, c.names-names.ensures.names)
    (named_below order.diagram.lines (length order.diagram.names) c.in_ok-found.found.given.items
    (given_named (IsLostBy (scene_of [] order.game order.diagram) c.args.vertex) (λ l. l.feature < feature_count order.diagram.lines)
    c.in_ok-found.ensures.repair.split c.requires.named) c.names-names.ensures.order.diagram.each_named)

pub tell_several-requires-clause-tried : goal.tell_several-requires-clause-tried
tell_several-requires-clause-tried c =
    rw c.names-names.ensures.names
    (tried_below c.args.order.now.diagram c.names-names.ensures.order.diagram c.args.decisions.now c.requires.named c.args.tried.now c.requires.tried.each)

pub returns : goal.returns
returns c =
    let order = c.args.order.now in
    let found = c.in_ok-found.found in
    let repair = c.in_ok-found.ensures in
    appends (TellsRetractions (scene_of [] order.game order.diagram) c.args.limits c.args.vertex c.args.was_hopeless c.args.decisions.now) _
    (inl (
      c.args.tried.now,
      c.requires.tried,
      inr (c.requires.none, inl (found.kept.items, found.given.items, found.sure, repair.repair, refl, repair.settled)),
    ))
    c.tell_several.result c.args.out.now.items c.tell_several.new.out.items
    (coe 0 1 (k. OnOk c.tell_several.result (c.tell_several.new.out.items ≡ c.args.out.now.items
    ++ several_text (c.names-names.ensures.names k) (c.deref.ensures.value k) found.sure c.args.tried.now (c.all_shown-exact.ensures k)))
    c.tell_several.ensures)
