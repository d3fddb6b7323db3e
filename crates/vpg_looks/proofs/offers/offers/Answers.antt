use Rattle.std.proofs.lemmas.Grind.{common_steps}
use Rattle.std.proofs.Common.{arith, refl}
use Rattle.vpg_texts.specs.Scene.{scene_of}
use Rattle.vpg_looks.specs.Answers.{TellsOffers}
use Rattle.vpg_looks.proofs.Told.{told_text}
use Rattle.vpg_looks.proofs.offers.offers.Goals as goal

pub tell-requires : goal.tell-requires
tell-requires c = grind (arith, common_steps)

pub returns : goal.returns
returns c = λ names.
    let order = c.args.order.now in
    told_text (TellsOffers (scene_of names order.game order.diagram) c.args.limits c.args.vertex order.decisions) _
    (c.known.result.now, c.in_ok-listed.listed.items, c.known.ensures, c.in_ok-listed.ensures.offers, refl)
    c.tell.result c.done.result c.done.ensures c.args.out.now.items c.tell.new.out.items
    (rw (c.names-names.ensures.names, c.deref.ensures.value) at c.tell.ensures)
