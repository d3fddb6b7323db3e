use Rattle.std.proofs.Common.{◌≡◌, ◌<◌, ◌∷◌, [], length, vec_len, rules, ap, ◌∙◌, arith}
use Rattle.std.proofs.lemmas.List.{length-map}
use Rattle.vpg_xml.specs.Reading.{more_text}
use Rattle.vpg_xml.specs.View.{element_of, elements_of}
use Rattle.vpg_xml.proofs.StepCode.{past, set_more, if_ok_by}
use Rattle.vpg_xml.proofs.reader.add_text.Goals as goal

pub returns-then-index-len : goal.returns-then-index-len
returns-then-index-len c =
    let v = c.args.elements.now in
    let count : vec_len v ≡ length v.items = search rules in
    past c.args.index (c.args.c ∷ []) (elements_of v.items) (omega (arith, count, c.len.ensures, c.if-index-len.true, length-map v.items element_of))

pub returns : goal.returns
returns c =
    let v = c.args.elements.now in
    let count : vec_len v ≡ length v.items = search rules in
    let within : c.args.index < length v.items = omega (arith, count, c.len.ensures, c.if-index-len.false) in
    if_ok_by c.say.result (λ e. set_more v.items c.args.index c.index_mut.result.now c.say.new.element (c.args.c ∷ []) within
    (e ∙ ap (λ x. more_text (c.args.c ∷ []) (element_of x)) c.index_mut.ensures.value)) c.say.ensures
