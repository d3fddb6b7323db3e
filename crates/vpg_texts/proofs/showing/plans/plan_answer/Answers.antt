use Rattle.std.proofs.Common.{ℕ, List, ◌++◌, refl, ap, ◌∙◌, subst, inl, inr}
use Rattle.std.specs.Prelude.{codes}
use Rattle.vpg_script.specs.Answer.{done, refused}
use Rattle.vpg_script.proofs.Given.{if_ok}
use Rattle.vpg_texts.specs.declared.showing.plans.PlanFault.{PlanFault}
use Rattle.vpg_texts.specs.Plan.{IsPlanFault}
use Rattle.vpg_texts.specs.Scene.{scene_of}
use Rattle.vpg_texts.proofs.showing.plans.plan_answer.Goals as goal

pub returns-in-Ok-clause-planned : goal.returns-in-Ok-clause-planned
returns-in-Ok-clause-planned c =
    let so = c.in-Ok.ensures.planned in
    (done so.0, (inl (refl, so.1.0), (refl, so.1.1)))

pub returns-in-Err-NotFull-clause-planned : goal.returns-in-Err-NotFull-clause-planned
returns-in-Err-NotFull-clause-planned c =
    let page = c.args.page.now in
    let text = codes "refused NotFull\n" in
    let fault = subst (λ (f : PlanFault). IsPlanFault (scene_of c.args.labels.now.names c.args.game.now c.args.diagram.now) page.decisions page.hopeful page.dual f) c.in-Err-NotFull.field-0-is c.in-Err-NotFull.ensures.refused in
    if_ok c.refused.result _ _
    (λ tone so. (refused (codes "NotFull"), (inr (inl (fault, refl)), (so.0, so.1 ∙ ap (λ (before : List ℕ). before ++ text) c.in-Err-NotFull.ensures.unchanged))))
    c.refused.ensures.given

pub returns-in-Err-NotSettled-clause-planned : goal.returns-in-Err-NotSettled-clause-planned
returns-in-Err-NotSettled-clause-planned c =
    let page = c.args.page.now in
    let text = codes "refused NotSettled\n" in
    let fault = subst (λ (f : PlanFault). IsPlanFault (scene_of c.args.labels.now.names c.args.game.now c.args.diagram.now) page.decisions page.hopeful page.dual f) c.in-Err-NotSettled.field-0-is c.in-Err-NotSettled.ensures.refused in
    if_ok c.refused-in-Err-NotSettled.result _ _
    (λ tone so. (refused (codes "NotSettled"), (inr (inr (fault, refl)), (so.0, so.1 ∙ ap (λ (before : List ℕ). before ++ text) c.in-Err-NotSettled.ensures.unchanged))))
    c.refused-in-Err-NotSettled.ensures.given
