use Rattle.std.proofs.Common.{[], inl, inr, refl}
use Rattle.std.specs.Prelude.{IfOk, codes}
use Rattle.vpg_script.specs.Answer.{Gives}
use Rattle.vpg_script.proofs.Given.{if_ok}
use Rattle.vpg_texts.specs.Scene.{scene_of}
use Rattle.vpg_texts.specs.Sights.{AreClaimed}
use Rattle.vpg_looks.specs.Asserted.{failing}
use Rattle.vpg_looks.proofs.claims.claimed.Goals as goal

pub returns-in-Product : goal.returns-in-Product
returns-in-Product c = λ names.
    let left = rw (c.in-Product.is, c.as_slice-decisions.ensures) at c.in_ok-left.ensures in
    if_ok c.claims_over.result _ _ (λ tone gives. (gives.0, (inr (inr (left, gives.1.0)), gives.1.1)))
    (coe 0 1 (k. IfOk c.claims_over.result (λ tone. Gives
    (AreClaimed (scene_of [] (c.deref-in-Product.ensures k) (c.deref-in-Product-2.ensures k)) c.args.vertex c.args.claims.now
    c.args.page.now.decisions c.args.page.now.hopeful c.args.page.now.dual) tone c.args.out.now.items c.claims_over.new.out.items))
    c.claims_over.ensures.claimed)

pub returns-in-Nothing : goal.returns-in-Nothing
returns-in-Nothing c = λ names.
    let left = rw (c.in-Nothing.is, c.as_slice-decisions.ensures) at c.in_ok-left.ensures in
    if_ok c.failing.result _ _ (λ tone given. (failing (codes "empty"), (inl (left, refl), given))) c.failing.ensures

pub returns-in-Unsettled : goal.returns-in-Unsettled
returns-in-Unsettled c = λ names.
    let left = rw (c.in-Unsettled.is, c.as_slice-decisions.ensures) at c.in_ok-left.ensures in
    if_ok c.failing-in-Unsettled.result _ _ (λ tone given. (failing (codes "unsettled"), (inr (inl (left, refl)), given))) c.failing-in-Unsettled.ensures
