use Rattle.std.proofs.lemmas.Grind.{common_steps}
use Rattle.std.proofs.lemmas.Bool.{false≢true}
use Rattle.std.proofs.Common.{◌≡◌, [], true, false, arith, inl, inr, refl}
use Rattle.vpg_script.proofs.Given.{done_gives, if_ok}
use Rattle.vpg_texts.specs.Scene.{scene_of}
use Rattle.vpg_looks.specs.Answers.{TellsFeature, TellsKnownBy}
use Rattle.vpg_looks.specs.Texts.{not_known}
use Rattle.vpg_looks.proofs.Telling.{listed_below}
use Rattle.vpg_looks.proofs.Told.{appends}
use Rattle.vpg_looks.proofs.reasons.feature.Goals as goal

pub known-requires-clause-listed : goal.known-requires-clause-listed
known-requires-clause-listed c =
    let explains = rw c.in-Some.is at c.in_ok-found.ensures.explains in
    rw (c.deref.ensures.value, c.names-names.ensures.names)
    (listed_below c.args.order.now c.names-names.ensures.order c.in-Some.found.decisions.items explains.among)

pub returns-in-Some : goal.returns-in-Some
returns-in-Some c =
    let order = c.args.order.now in
    let page = scene_of [] order.game order.diagram in
    let known = c.in_ok-found.ensures in
    let exact : c.in-Some.found.exact ≡ true = rw c.in-Some.is at known.exact in
    done_gives (TellsKnownBy page c.args.feature true order.decisions) (TellsFeature page c.args.feature order.decisions)
    (λ answer is. inl is) c.known.result c.done.result c.done.ensures c.args.out.now.items c.known.new.out.items
    (appends (TellsKnownBy page c.args.feature true order.decisions) _
    (c.in-Some.found.decisions.items, rw exact at (rw c.in-Some.is at known.explains), refl)
    c.known.result c.args.out.now.items c.known.new.out.items
    (rw (c.names-names.ensures.names, c.deref.ensures.value) at c.known.ensures))

pub known-requires-in-Some-2-clause-listed : goal.known-requires-in-Some-2-clause-listed
known-requires-in-Some-2-clause-listed c =
    let explains = rw c.in-Some-2.is at c.in_ok-found-2.ensures.explains in
    rw (c.deref-in-Some-2.ensures.value, c.names-names.ensures.names)
    (listed_below c.args.order.now c.names-names.ensures.order c.in-Some-2.found.decisions.items explains.among)

pub returns-in-Some-2 : goal.returns-in-Some-2
returns-in-Some-2 c =
    let order = c.args.order.now in
    let page = scene_of [] order.game order.diagram in
    let known = c.in_ok-found-2.ensures in
    let told = rw c.in_default.is at c.in_ok-found.ensures.told in
    let exact : c.in-Some-2.found.exact ≡ true = rw c.in-Some-2.is at known.exact in
    done_gives (TellsKnownBy page c.args.feature false order.decisions) (TellsFeature page c.args.feature order.decisions)
    (λ answer is. inr (inl (λ so. false≢true (told.1 so), is))) c.known-in-Some-2.result c.done-in-Some-2.result c.done-in-Some-2.ensures
    c.args.out.now.items c.known-in-Some-2.new.out.items
    (appends (TellsKnownBy page c.args.feature false order.decisions) _
    (c.in-Some-2.found.decisions.items, rw exact at (rw c.in-Some-2.is at known.explains), refl)
    c.known-in-Some-2.result c.args.out.now.items c.known-in-Some-2.new.out.items
    (rw (c.names-names.ensures.names, c.deref-in-Some-2.ensures.value) at c.known-in-Some-2.ensures))

pub returns-in-None : goal.returns-in-None
returns-in-None c =
    let in_told = rw c.in_default.is at c.in_ok-found.ensures.told in
    let out_told = rw c.in-None.is at c.in_ok-found-2.ensures.told in
    if_ok c.not_known.result _ _
    (λ tone given. (not_known, (inr (inr (λ so. false≢true (in_told.1 so), λ so. false≢true (out_told.1 so), refl)), given))) c.not_known.ensures

pub known-requires-in-Some-2-clause-feature : goal.known-requires-in-Some-2-clause-feature
known-requires-in-Some-2-clause-feature c = grind (arith, common_steps)

pub known-requires-clause-feature : goal.known-requires-clause-feature
known-requires-clause-feature c = grind (arith, common_steps)
