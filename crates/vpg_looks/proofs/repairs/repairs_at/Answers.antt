use Rattle.std.proofs.Common.{◌≡◌, [], ℕ, List, false, inl, inr, refl}
use Rattle.std.proofs.lemmas.Bool.{false≢true}
use Rattle.vpg_diagram.specs.declared.clause.Literal.{Literal}
use Rattle.vpg_texts.proofs.Shown.{on_ok}
use Rattle.vpg_texts.specs.Scene.{Scene, scene_of}
use Rattle.vpg_why.specs.declared.question.Limits.{Limits}
use Rattle.vpg_looks.specs.Answers.{TellsRepair}
use Rattle.vpg_looks.specs.Repairs.{IsEffect, IsLostBy}
use Rattle.vpg_looks.specs.declared.retracting.Effect.{Effect}
use Rattle.vpg_looks.specs.declared.retracting.Effect.TheVariants as effects
use Rattle.vpg_looks.proofs.Told.{told_done, told_text}
use Rattle.vpg_looks.proofs.repairs.repairs_at.Goals as goal

lost_by : (scene : Scene) (limits : Limits) (vertex : ℕ) (chosen : List Literal) (e : Effect) → (e ≡ effects.Won → ⊥) → (e ≡ effects.Unsettled → ⊥) →
    IsEffect scene limits vertex false chosen e → IsLostBy scene vertex chosen
lost_by scene limits vertex chosen effects.Won not_won not_open so = absurd (not_won refl)
lost_by scene limits vertex chosen effects.Unsettled not_won not_open so = absurd (not_open refl)
lost_by scene limits vertex chosen effects.Possible not_won not_open so = so.0
lost_by scene limits vertex chosen effects.Nothing not_won not_open so = so.0

pub effect_of-requires-clause-named : goal.effect_of-requires-clause-named
effect_of-requires-clause-named c = rw c.decisions.ensures.decisions c.decisions.ensures.order.named

pub retractions-requires-clause-reason : goal.retractions-requires-clause-reason
retractions-requires-clause-reason c =
    let lost = rw c.in-Some.is at c.in_ok-why.ensures.lost in
    let explains = rw c.in-Some.is at c.in_ok-why.ensures.explains in
    rw c.deref.ensures.value (lost, λ w. explains.enough)

pub retractions-requires-in_default-found-clause-reason : goal.retractions-requires-in_default-found-clause-reason
retractions-requires-in_default-found-clause-reason c =
    let order = c.args.order.now in
    rw c.decisions-in_default-found.ensures.decisions (
      lost_by (scene_of [] order.game order.diagram) c.args.limits c.args.vertex _ c.in_ok-found.found c.in_default-found.not-Won
          c.in_default-found.not-Unsettled (rw c.decisions.ensures.decisions at c.in_ok-found.ensures),
      λ w. absurd (false≢true w),
    )

pub returns-in-Some : goal.returns-in-Some
returns-in-Some c =
    let order = c.args.order.now in
    let page = scene_of c.args.labels.now.names order.game order.diagram in
    told_done (TellsRepair page c.args.limits c.args.vertex order.decisions order.hopeful)
    c.retractions.result c.done.result c.done.ensures c.args.out.now.items c.retractions.new.out.items
    (on_ok c.retractions.result _ _
    (λ told. (told.0, (inl (c.in_ok-why.ensures.told.0 (rw c.in-Some.is refl), told.1.0), told.1.1))) c.retractions.ensures)

pub returns-in-Won : goal.returns-in-Won
returns-in-Won c =
    let order = c.args.order.now in
    let page = scene_of c.args.labels.now.names order.game order.diagram in
    let why = rw c.in_default.is at c.in_ok-why.ensures.told in
    told_text (TellsRepair page c.args.limits c.args.vertex order.decisions order.hopeful) _
    (inr (λ high. false≢true (why.1 high), inr (inl (rw (c.in-Won.is, c.decisions.ensures.decisions) at c.in_ok-found.ensures, refl))))
    c.other.result c.done-in-Won.result c.done-in-Won.ensures c.args.out.now.items c.other.new.out.items
    (rw (c.identifier.ensures, c.name-label.ensures) at c.other.ensures)

pub returns-in-Unsettled : goal.returns-in-Unsettled
returns-in-Unsettled c =
    let order = c.args.order.now in
    let page = scene_of c.args.labels.now.names order.game order.diagram in
    let why = rw c.in_default.is at c.in_ok-why.ensures.told in
    told_text (TellsRepair page c.args.limits c.args.vertex order.decisions order.hopeful) _
    (inr (λ high. false≢true (why.1 high), inr (inr (rw (c.in-Unsettled.is, c.decisions.ensures.decisions) at c.in_ok-found.ensures, refl))))
    c.unsettled.result c.done-in-Unsettled.result c.done-in-Unsettled.ensures c.args.out.now.items c.unsettled.new.out.items c.unsettled.ensures

pub returns-in_default-found : goal.returns-in_default-found
returns-in_default-found c =
    let order = c.args.order.now in
    let page = scene_of c.args.labels.now.names order.game order.diagram in
    let why = rw c.in_default.is at c.in_ok-why.ensures.told in
    let lost = lost_by (scene_of [] order.game order.diagram) c.args.limits c.args.vertex _ c.in_ok-found.found c.in_default-found.not-Won
    c.in_default-found.not-Unsettled (rw c.decisions.ensures.decisions at c.in_ok-found.ensures) in
    told_done (TellsRepair page c.args.limits c.args.vertex order.decisions order.hopeful)
    c.retractions-in_default-found.result c.done-in_default-found.result c.done-in_default-found.ensures
    c.args.out.now.items c.retractions-in_default-found.new.out.items
    (on_ok c.retractions-in_default-found.result _ _
    (λ told. (told.0, (inr (λ high. false≢true (why.1 high), inl (lost, told.1.0)), told.1.1))) c.retractions-in_default-found.ensures)
