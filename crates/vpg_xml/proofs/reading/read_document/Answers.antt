use Rattle.std.proofs.Common.{◌≡◌, Some, sym, ap, ◌∙◌}
use Rattle.vpg_xml.specs.Tokens.{body_of}
use Rattle.vpg_xml.specs.View.{text_in, elements_of}
use Rattle.vpg_xml.proofs.StepCode.{if_ok_of, if_err_by}
use Rattle.vpg_xml.proofs.Faulty.{read_spells, read_only, halts_only, halts_at}
use Rattle.vpg_xml.proofs.reading.read_document.Goals as goal

pub returns-clause-spelled : goal.returns-clause-spelled
returns-clause-spelled c =
    let text = c.args.text.now in
    let body = c.in-Some.rest.now in
    let is : body_of text ≡ Some body = sym c.in_ok-rest.ensures.read ∙ ap (λ o. text_in o) c.in-Some.is in
    if_ok_of c.read_body.result (λ v r. read_spells text body is (elements_of v.items) r) c.read_body.ensures.read

pub returns-clause-only : goal.returns-clause-only
returns-clause-only c d k =
    let text = c.args.text.now in
    let body = c.in-Some.rest.now in
    let is : body_of text ≡ Some body = sym c.in_ok-rest.ensures.read ∙ ap (λ o. text_in o) c.in-Some.is in
    if_ok_of c.read_body.result (λ v r. read_only text body is (elements_of v.items) d r k) c.read_body.ensures.read

pub returns-clause-none : goal.returns-clause-none
returns-clause-none c d k =
    let text = c.args.text.now in
    let body = c.in-Some.rest.now in
    let is : body_of text ≡ Some body = sym c.in_ok-rest.ensures.read ∙ ap (λ o. text_in o) c.in-Some.is in
    if_err_by c.read_body.result (λ e h. halts_only text body is e d h k) c.read_body.ensures.halts

pub returns-clause-fault : goal.returns-clause-fault
returns-clause-fault c =
    let text = c.args.text.now in
    let body = c.in-Some.rest.now in
    let is : body_of text ≡ Some body = sym c.in_ok-rest.ensures.read ∙ ap (λ o. text_in o) c.in-Some.is in
    if_err_by c.read_body.result (λ e h. halts_at text body is e h) c.read_body.ensures.halts
