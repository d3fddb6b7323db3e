use Rattle.std.proofs.Common.{◌≡◌, ◌-◌, ◌++◌, ◌∷◌, [], ℕ, List, Some, None, sym, ap, ◌∙◌, arith}
use Rattle.vpg_xml.specs.Tokens.{character_at, value_with}
use Rattle.vpg_xml.specs.View.{with_rest, same}
use Rattle.vpg_xml.proofs.Turns.{value_closes, value_stops, value_goes, value_ends}
use Rattle.vpg_xml.proofs.tags.value.Goals as goal

pub returns-then-b-quote-clause-read : goal.returns-then-b-quote-clause-read
returns-then-b-quote-clause-read c =
    let i = c.loop-rest.invariant in
    value_closes i.turns c.args.quote c.loop-rest.said.items c.loop-rest.rest.now 0 c.in-len1-up.len_at_least i.enough c.if-b-quote.true ∙ sym i.reads

pub returns-in_default-character-clause-read : goal.returns-in_default-character-clause-read
returns-in_default-character-clause-read c =
    let i = c.loop-rest.invariant in
    let none : character_at c.args.quote c.loop-rest.rest.now ≡ None = sym c.character.ensures.read ∙ ap (λ o. with_rest (same {A = ℕ}) o) c.in_default-character.is in
    value_stops i.turns c.args.quote c.loop-rest.said.items c.loop-rest.rest.now 0 c.in-len1-up.len_at_least i.enough c.if-b-quote.false none ∙ sym i.reads

pub loop-rest-preserved : goal.loop-rest-preserved
loop-rest-preserved c =
    let i = c.loop-rest.invariant in
    let q = c.args.quote in
    let left = c.in-Some.left.now in
    let reads : character_at q c.loop-rest.rest.now ≡ Some (c.in-Some.c, left) = sym c.in-Some.ensures.read in
    let pushed : c.push.new.self.items ≡ c.loop-rest.said.items ++ c.in-Some.c ∷ [] = c.in_ok-push.ensures.items in
    record {
      turns = i.turns - 1;
      enough = omega (arith, i.enough, c.in-Some.ensures.shorter);
      reads = i.reads ∙ (value_goes i.turns q c.loop-rest.said.items c.loop-rest.rest.now 0 c.in-Some.c left c.in-len1-up.len_at_least i.enough c.if-b-quote.false reads
          ∙ sym (ap (λ (said : List ℕ). value_with (i.turns - 1) q said left) pushed));
      within = omega (arith, i.within, c.in-Some.ensures.shorter);
    }

pub returns-clause-read : goal.returns-clause-read
returns-clause-read c =
    let i = c.loop-rest.invariant in
    value_ends i.turns c.args.quote c.loop-rest.said.items c.loop-rest.rest.now c.in_default.len_below ∙ sym i.reads
