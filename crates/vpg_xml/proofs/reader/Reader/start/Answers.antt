use Rattle.std.proofs.Common.{◌≡◌, ◌++◌, ◌∷◌, [], ℕ, List, Ok, Bool, length, map, reverse, vec_len, rules, sym, ap, ap₂, ◌∙◌}
use Rattle.std.proofs.lemmas.List.{length-map}
use Rattle.vpg_xml.specs.Elements.{Element}
use Rattle.vpg_xml.specs.Tokens.{a_start, pieces_of}
use Rattle.vpg_xml.specs.Nesting.{element}
use Rattle.vpg_xml.specs.Reading.{Frame, State, run, with_element}
use Rattle.vpg_xml.specs.View.{state_of, tag_of, frame_of, element_of, elements_of}
use Rattle.vpg_xml.proofs.StepCode.{run_one, run_empty, elements_pushed, opened_pushed}
use Rattle.vpg_xml.proofs.reader.Reader.start.Goals as goal

pub returns-in-Err-clause-err : goal.returns-in-Err-clause-err
returns-in-Err-clause-err c = c.in-Err.ensures.err (tag_of c.args.tag)

pub returns-then-is_empty-clause-ok : goal.returns-then-is_empty-clause-ok
returns-then-is_empty-clause-ok c =
    let s : State = state_of c.args.self.now in
    let tag = tag_of c.args.tag in
    let parent = c.in-Ok.parent in
    let pushed : elements_of c.push.new.self.items ≡ s.elements ++ element c.args.at tag parent [] ∷ [] =
    elements_pushed c.args.self.now.elements.items c.push.new.self.items c.args.at c.args.tag parent _ c.in-Ok-push.ensures.items (ap (λ t. element c.args.at tag parent t) c.new-text.ensures.items) in
    ap (λ (e : Bool). run (pieces_of c.args.at (a_start tag e)) s) c.if-is_empty.true
    ∙ (run_empty s c.args.at tag parent (c.in-Ok.ensures.ok tag)
    ∙ sym (ap (λ (es : List Element). Ok (record { elements = es; opened = s.opened })) pushed))

pub returns-clause-ok : goal.returns-clause-ok
returns-clause-ok c =
    let s : State = state_of c.args.self.now in
    let tag = tag_of c.args.tag in
    let parent = c.in-Ok.parent in
    let v = c.args.self.now.elements in
    let pushed : elements_of c.push.new.self.items ≡ s.elements ++ element c.args.at tag parent [] ∷ [] =
    elements_pushed v.items c.push.new.self.items c.args.at c.args.tag parent _ c.in-Ok-push.ensures.items (ap (λ t. element c.args.at tag parent t) c.new-text.ensures.items) in
    let count : vec_len v ≡ length v.items = search rules in
    let index : c.len.result ≡ length s.elements = c.len.ensures ∙ (count ∙ sym (length-map v.items element_of)) in
    let frames : reverse (map frame_of c.push-2.new.self.items) ≡ record { index = length s.elements; name = tag.name } ∷ s.opened =
    opened_pushed c.args.self.now.«open».items c.push-2.new.self.items _ c.in-Ok-push-2.ensures.items ∙ ap (λ (i : ℕ). record { index = i; name = tag.name } ∷ s.opened) index in
    ap (λ (e : Bool). run (pieces_of c.args.at (a_start tag e)) s) c.if-is_empty.false
    ∙ (run_one s (with_element c.args.at tag parent s) c.args.at _ (c.in-Ok.ensures.ok tag)
    ∙ sym (ap₂ (λ (es : List Element) (fs : List Frame). Ok (record { elements = es; opened = fs })) pushed frames))
