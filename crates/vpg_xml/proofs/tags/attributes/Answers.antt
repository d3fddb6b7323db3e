use Rattle.std.proofs.Common.{◌≡◌, ◌-◌, ◌<◌, ◌++◌, ◌∷◌, [], List, Some, None, true, false, length, map, sym, ap, ◌∙◌, arith}
use Rattle.std.proofs.lemmas.List.{map-append}
use Rattle.vpg_xml.specs.Elements.{Attribute}
use Rattle.vpg_xml.specs.Tokens.{attribute_at, has_attribute, is_new, attributes_with}
use Rattle.vpg_xml.specs.View.{with_rest, attribute_of}
use Rattle.vpg_xml.proofs.Turns.{shorter_by, attributes_end, attributes_stop, attributes_again, attributes_more}
use Rattle.vpg_xml.proofs.tags.attributes.Goals as goal

pub returns-in_default-clause-read : goal.returns-in_default-clause-read
returns-in_default-clause-read c =
    let i = c.loop-alloc.invariant in
    let r = c.loop-alloc.rest.now in
    let more : has_attribute r ≡ true = sym c.has_attribute.ensures ∙ c.loop-alloc-test.true in
    let none : attribute_at c.args.size r ≡ None = sym c.in_ok-next.ensures.read ∙ ap (λ o. with_rest attribute_of o) c.in_default.is in
    attributes_stop i.turns c.args.size (map attribute_of c.loop-alloc.found.items) r i.enough more none ∙ sym i.reads

pub returns-then-not-is_new-clause-read : goal.returns-then-not-is_new-clause-read
returns-then-not-is_new-clause-read c =
    let i = c.loop-alloc.invariant in
    let r = c.loop-alloc.rest.now in
    let before : List Attribute = map attribute_of c.loop-alloc.found.items in
    let a : Attribute = attribute_of c.in-Some.next in
    let more : has_attribute r ≡ true = sym c.has_attribute.ensures ∙ c.loop-alloc-test.true in
    let reads : attribute_at c.args.size r ≡ Some (a, c.in-Some.left.now) = sym c.in_ok-next.ensures.read ∙ ap (λ o. with_rest attribute_of o) c.in-Some.is in
    let old : is_new before a.name ≡ false = ap (λ xs. is_new (map attribute_of xs) a.name) (sym c.deref.ensures.value) ∙ (sym c.is_new.ensures ∙ c.if-not-is_new.true) in
    attributes_again i.turns c.args.size before r a c.in-Some.left.now i.enough more reads old ∙ sym i.reads

pub loop-alloc-preserved : goal.loop-alloc-preserved
loop-alloc-preserved c =
    let i = c.loop-alloc.invariant in
    let r = c.loop-alloc.rest.now in
    let left = c.in-Some.left.now in
    let before : List Attribute = map attribute_of c.loop-alloc.found.items in
    let a : Attribute = attribute_of c.in-Some.next in
    let more : has_attribute r ≡ true = sym c.has_attribute.ensures ∙ c.loop-alloc-test.true in
    let reads : attribute_at c.args.size r ≡ Some (a, left) = sym c.in_ok-next.ensures.read ∙ ap (λ o. with_rest attribute_of o) c.in-Some.is in
    let new : is_new before a.name ≡ true = ap (λ xs. is_new (map attribute_of xs) a.name) (sym c.deref.ensures.value) ∙ (sym c.is_new.ensures ∙ c.if-not-is_new.false) in
    let pushed : map attribute_of c.push.new.self.items ≡ before ++ a ∷ [] =
    ap (λ xs. map attribute_of xs) c.in_ok-push.ensures.items ∙ map-append attribute_of c.loop-alloc.found.items (c.in-Some.next ∷ []) in
    let shorter : length left < length r = shorter_by c.in_ok-next.field-0 c.in-Some.next c.in-Some.left r c.in-Some.is c.in_ok-next.ensures.shorter in
    record {
      turns = i.turns - 1;
      enough = omega (arith, i.enough, shorter);
      reads = i.reads ∙ (attributes_more i.turns c.args.size before r a left i.enough more reads new
          ∙ sym (ap (λ (found : List Attribute). attributes_with (i.turns - 1) c.args.size found left) pushed));
      within = omega (arith, i.within, shorter);
    }

pub returns-clause-read : goal.returns-clause-read
returns-clause-read c =
    let i = c.loop-alloc.invariant in
    let r = c.loop-alloc.rest.now in
    let no : has_attribute r ≡ false = sym c.has_attribute.ensures ∙ c.loop-alloc-test.false in
    attributes_end i.turns c.args.size (map attribute_of c.loop-alloc.found.items) r no ∙ sym i.reads
