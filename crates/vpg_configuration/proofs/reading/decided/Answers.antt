use Rattle.std.proofs.Common.{◌≡◌, inl, sym, ap, subst, ◌∙◌}
use Rattle.vpg_xml.specs.Nesting.{Spells}
use Rattle.vpg_xml.specs.View.{elements_of}
use Rattle.vpg_xml.proofs.StepCode.{if_ok_of, if_err_by}
use Rattle.vpg_configuration.specs.Deciding.{lines_of, of_xml, IsTextFault}
use Rattle.vpg_configuration.proofs.Decided.{refused_as, faulty, xml_fault}
use Rattle.vpg_configuration.proofs.reading.decided.Goals as goal

pub returns-in-Ok-clause-only : goal.returns-in-Ok-clause-only
returns-in-Ok-clause-only c d k =
    let same : elements_of c.deref.result.now ≡ d = ap elements_of c.deref.ensures.value ∙ c.in-Ok.ensures.only d k in
    if_ok_of c.lines_of.result (λ m h. sym (ap lines_of same) ∙ h) c.lines_of.ensures.ok

pub returns-in-Ok-clause-refused : goal.returns-in-Ok-clause-refused
returns-in-Ok-clause-refused c d k =
    let same : elements_of c.deref.result.now ≡ d = ap elements_of c.deref.ensures.value ∙ c.in-Ok.ensures.only d k in
    if_err_by c.lines_of.result (λ e h. refused_as (elements_of c.deref.result.now) d e same h) c.lines_of.ensures.err

pub returns-in-Ok-clause-fault : goal.returns-in-Ok-clause-fault
returns-in-Ok-clause-fault c =
    let text = c.args.text.now in
    let d = elements_of c.deref.result.now in
    let spells : Spells text d = subst (Spells text) (sym (ap elements_of c.deref.ensures.value)) c.in-Ok.ensures.spelled in
    if_err_by c.lines_of.result (λ e h. faulty text d e spells h) c.lines_of.ensures.err

pub returns-in-Err-clause-refused : goal.returns-in-Err-clause-refused
returns-in-Err-clause-refused c d k = inl (c.of_xml.ensures ∙ ap of_xml (c.in-Err.ensures.none d k))

pub returns-in-Err-clause-fault : goal.returns-in-Err-clause-fault
returns-in-Err-clause-fault c =
    subst (IsTextFault c.args.text.now) (sym c.of_xml.ensures) (xml_fault c.args.text.now c.in-Err.fault c.in-Err.ensures.fault)
