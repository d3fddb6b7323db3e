use Rattle.std.proofs.lemmas.Grind.{common_steps}
use Rattle.std.proofs.lemmas.Bool.{false≢true}
use Rattle.std.proofs.Common.{◌≡◌, [], true, arith, inl, inr, refl}
use Rattle.vpg_script.proofs.Given.{done_gives, if_ok}
use Rattle.vpg_texts.specs.Scene.{scene_of}
use Rattle.vpg_looks.specs.Answers.{TellsChoice, TellsConflict}
use Rattle.vpg_looks.specs.Texts.{no_conflict}
use Rattle.vpg_looks.proofs.Telling.{listed_below}
use Rattle.vpg_looks.proofs.Told.{appends}
use Rattle.vpg_looks.proofs.reasons.choice.Goals as goal

pub conflict-requires-clause-listed : goal.conflict-requires-clause-listed
conflict-requires-clause-listed c =
    let explains = rw c.in-Some.is at c.in_ok-found.ensures.explains in
    rw (c.deref.ensures.value, c.names-names.ensures.names)
    (listed_below c.args.order.now c.names-names.ensures.order c.in-Some.found.decisions.items explains.among)

pub returns-in-Some : goal.returns-in-Some
returns-in-Some c =
    let order = c.args.order.now in
    let page = scene_of [] order.game order.diagram in
    let known = c.in_ok-found.ensures in
    let exact : c.in-Some.found.exact ≡ true = rw c.in-Some.is at known.exact in
    done_gives (TellsConflict page c.args.feature c.args.value order.decisions) (TellsChoice page c.args.feature c.args.value order.decisions)
    (λ answer is. inl is) c.conflict.result c.done.result c.done.ensures c.args.out.now.items c.conflict.new.out.items
    (appends (TellsConflict page c.args.feature c.args.value order.decisions) _
    (c.in-Some.found.decisions.items, rw exact at (rw c.in-Some.is at known.explains), refl)
    c.conflict.result c.args.out.now.items c.conflict.new.out.items
    (rw (c.names-names.ensures.names, c.deref.ensures.value) at c.conflict.ensures))

pub returns-in-None : goal.returns-in-None
returns-in-None c =
    let told = rw c.in-None.is at c.in_ok-found.ensures.told in
    if_ok c.no_conflict.result _ _ (λ tone given. (no_conflict, (inr (λ so. false≢true (told.1 so), refl), given))) c.no_conflict.ensures

pub conflict-requires-clause-feature : goal.conflict-requires-clause-feature
conflict-requires-clause-feature c = grind (arith, common_steps)
