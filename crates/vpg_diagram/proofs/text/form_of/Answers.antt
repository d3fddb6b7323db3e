use Rattle.std.proofs.Common.{◌+◌, drop, sym, ap, ap₂, ◌∙◌, add-one}
use Rattle.std.proofs.lemmas.List.{take_rest}
use Rattle.vpg_diagram.specs.DiagramText.{words}
use Rattle.vpg_diagram.specs.DiagramReading.{plain_form, group_form, form_by_colon}
use Rattle.vpg_diagram.specs.FormView.{texts}
use Rattle.vpg_diagram.proofs.FormCode.{colon_some, colon_none}
use Rattle.vpg_diagram.proofs.text.form_of.Goals as goal

pub returns-in_ok-all-in-None : goal.returns-in_ok-all-in-None
returns-in_ok-all-in-None c =
    c.plain_form.ensures ∙
    (ap plain_form (ap texts c.deref.ensures.value ∙ c.in_ok-all-in-None.ensures) ∙
    sym (ap (form_by_colon c.args.line.now) (colon_none c.args.line.now (sym c.colon.ensures ∙ c.in-None.is))))

pub returns-in_ok-members-in-Some : goal.returns-in_ok-members-in-Some
returns-in_ok-members-in-Some c =
    let h = c.in_ok-head-in-Some.ensures in
    let m = c.in_ok-members-in-Some.ensures in
    c.group_form.ensures ∙
    (ap₂ group_form (ap texts c.deref-in-Some.ensures.value ∙ h) (m ∙ ap words (take_rest c.args.line.now (c.in-Some.at + 1) ∙ ap (λ k. drop k c.args.line.now) (add-one c.in-Some.at))) ∙
    sym (ap (form_by_colon c.args.line.now) (colon_some c.args.line.now c.in-Some.at (sym c.colon.ensures ∙ c.in-Some.is))))
