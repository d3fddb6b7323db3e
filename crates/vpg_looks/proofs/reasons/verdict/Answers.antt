use Rattle.std.proofs.Common.{inl, inr, refl}
use Rattle.std.proofs.lemmas.Bool.{false≢true}
use Rattle.vpg_measure.specs.Orders.{order_table}
use Rattle.vpg_texts.specs.Scene.{scene_of}
use Rattle.vpg_looks.specs.Answers.{TellsVerdict}
use Rattle.vpg_looks.proofs.Telling.{listed_below}
use Rattle.vpg_looks.proofs.Told.{appends}
use Rattle.vpg_looks.proofs.reasons.verdict.Goals as goal

pub verdict-requires : goal.verdict-requires
verdict-requires c =
    let explains = rw c.in-Some.is at c.in_ok-found.ensures.explains in
    rw (c.deref.ensures.value, c.names-names.ensures.names)
    (listed_below c.args.order.now c.names-names.ensures.order c.in-Some.found.decisions.items explains.among)

pub returns-in-Some : goal.returns-in-Some
returns-in-Some c =
    let order = c.args.order.now in
    let found = c.in-Some.found in
    let known = c.in_ok-found.ensures in
    appends (TellsVerdict (scene_of c.args.labels.now.names order.game order.diagram) c.args.limits c.args.which c.args.vertex order.decisions (order_table c.args.which order)) _
    (inl (known.told.0 (rw c.in-Some.is refl), (found.decisions.items, found.exact, rw c.in-Some.is at known.explains, refl, rw c.in-Some.is at known.settled)))
    c.verdict.result c.args.out.now.items c.verdict.new.out.items
    (rw (c.names-names.ensures.names, c.identifier-identifier.ensures, c.name-label.ensures, c.deref.ensures.value) at c.verdict.ensures)

pub returns-in-None : goal.returns-in-None
returns-in-None c =
    let order = c.args.order.now in
    let told = rw c.in-None.is at c.in_ok-found.ensures.told in
    appends (TellsVerdict (scene_of c.args.labels.now.names order.game order.diagram) c.args.limits c.args.which c.args.vertex order.decisions (order_table c.args.which order)) _
    (inr (λ high. false≢true (told.1 high), refl)) c.other.result c.args.out.now.items c.other.new.out.items
    (rw (c.identifier-identifier.ensures, c.name-label.ensures) at c.other.ensures)
