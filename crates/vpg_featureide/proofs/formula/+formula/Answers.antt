use Rattle.std.proofs.Common.{◌≡◌, ℕ, suc, ◌+◌, ◌<◌, ◌++◌, ◌∷◌, [], true, List, Option, length, drop, map, sym, ap, ◌∙◌, arith}
use Rattle.std.proofs.lemmas.List.{map-append}
use Rattle.vpg_rules.specs.Constraint.{Constraint}
use Rattle.vpg_rules.specs.View.{constraint_of}
use Rattle.vpg_xml.specs.Elements.{Element, Document}
use Rattle.vpg_xml.specs.View.{element_of, elements_of}
use Rattle.vpg_xml.proofs.StepCode.{if_ok_of, if_err_by}
use Rattle.vpg_featureide.specs.Formulas.{is_operand, operands_with, joined, joined_if, formula_with}
use Rattle.vpg_featureide.proofs.Formed.{formula_more, element_is, refused_along}
use Rattle.vpg_featureide.proofs.Spanned.{span, ends_within, begun, done, element_here, operand_more, operand_less, operand_err}
use Rattle.vpg_featureide.proofs.formula.+formula.Goals as goal
use Rattle.vpg_featureide.proofs.formula.+formula.Goals.{operands-then-is_operand+in-Ok+in-Ok-push, operands-else-is_operand}

pub formula-returns-in-Ok-clause-ok : goal.formula-returns-in-Ok-clause-ok
formula-returns-in-Ok-clause-ok t c =
    let names = c.args.names.now in
    let roles = c.args.roles.now in
    let xs = c.args.elements.now in
    let i = c.args.i in
    let cs : List (Constraint ℕ) = map constraint_of c.in-Ok.parts.items in
    let e = c.index-elements-i.result in
    let whole : formula_with c.args.depth names roles (elements_of xs) i ≡ joined names (element_of e) cs =
    formula_more c.args.depth names roles (elements_of xs) i cs c.if-depth-eq0.false c.in-Ok.ensures.ok
    ∙ ap (λ (o : Option Element). joined_if names o cs) (element_is xs i e c.requires.within c.index-elements-i.is) in
    if_ok_of c.joined.result (λ r h. whole ∙ h) c.joined.ensures.ok

pub formula-returns-in-Ok-clause-err : goal.formula-returns-in-Ok-clause-err
formula-returns-in-Ok-clause-err t c =
    let names = c.args.names.now in
    let roles = c.args.roles.now in
    let xs = c.args.elements.now in
    let i = c.args.i in
    let cs : List (Constraint ℕ) = map constraint_of c.in-Ok.parts.items in
    let e = c.index-elements-i.result in
    let whole : formula_with c.args.depth names roles (elements_of xs) i ≡ joined names (element_of e) cs =
    formula_more c.args.depth names roles (elements_of xs) i cs c.if-depth-eq0.false c.in-Ok.ensures.ok
    ∙ ap (λ (o : Option Element). joined_if names o cs) (element_is xs i e c.requires.within c.index-elements-i.is) in
    if_err_by c.joined.result (λ f h. refused_along (formula_with c.args.depth names roles (elements_of xs) i) (joined names (element_of e) cs) f whole h) c.joined.ensures.err

pub operands-loop-j-init : goal.operands-loop-j-init
operands-loop-j-init t c =
    let xs = c.args.elements.now in
    let spans = c.args.spans.now in
    let i = c.args.i in
    let roles = c.args.roles.now in
    let read = formula_with c.args.depth c.args.names.now roles (elements_of xs) in
    let first = (span spans xs i c.requires.spans c.requires.within).from in
    record {
      within = ends_within spans xs i c.requires.spans c.requires.within;
      same = begun spans xs i c.requires.spans c.requires.within read roles
          ∙ ap (λ items. operands_with read roles i first (map constraint_of items) (drop first (elements_of xs))) (sym c.new-parts.ensures.items);
    }

pub operands-returns-in-Err-clause-err : goal.operands-returns-in-Err-clause-err
operands-returns-in-Err-clause-err t c =
    let xs = c.args.elements.now in
    let roles = c.args.roles.now in
    let i = c.args.i in
    let j = c.loop-j.j in
    let e = c.index-elements-j.result in
    let read = formula_with c.args.depth c.args.names.now roles (elements_of xs) in
    let before : List (Constraint ℕ) = map constraint_of c.loop-j.parts.items in
    let rest = drop (j + 1) (elements_of xs) in
    let within : j < length xs = omega (arith, c.loop-j-test.true, c.loop-j.invariant.within) in
    let is : is_operand roles i j (element_of e) ≡ true = sym c.is_operand.ensures ∙ c.if-is_operand.true in
    refused_along _ _ c.in-Err.fault (c.loop-j.invariant.same ∙ ap (λ (es : Document). operands_with read roles i j before es) (element_here xs j e within c.index-elements-j.is))
    (operand_err read roles i j (element_of e) before rest c.in-Err.fault is c.in-Err.ensures.err)

pub operands-loop-j-preserved : goal.operands-loop-j-preserved
operands-loop-j-preserved t c =
    let xs = c.args.elements.now in
    let roles = c.args.roles.now in
    let i = c.args.i in
    let j = c.loop-j.j in
    let e = c.index-elements-j.result in
    let read = formula_with c.args.depth c.args.names.now roles (elements_of xs) in
    let before : List (Constraint ℕ) = map constraint_of c.loop-j.parts.items in
    let rest = drop (j + 1) (elements_of xs) in
    let within : j < length xs = omega (arith, c.loop-j-test.true, c.loop-j.invariant.within) in
    let role : is_operand roles i j (element_of e) ≡ c.is_operand.result = sym c.is_operand.ensures in
    let here = c.loop-j.invariant.same ∙ ap (λ (es : Document). operands_with read roles i j before es) (element_here xs j e within c.index-elements-j.is) in
    let next : j + 1 ≡ suc j = omega arith in
    record {
      within = c.loop-j.invariant.within;
      same = elim c.if-is_operand.branch [
        | operands-then-is_operand+in-Ok+in-Ok-push w ↦
            (let items : w.push.new.self.items ≡ c.loop-j.parts.items ++ w.in-Ok.part ∷ [] = w.in-Ok-push.ensures.items in
            let pushed : map constraint_of c.if-is_operand.parts.items ≡ before ++ constraint_of w.in-Ok.part ∷ [] =
            ap (λ v. map constraint_of v.items) w.parts-is ∙ (ap (λ rs. map constraint_of rs) items ∙ map-append constraint_of c.loop-j.parts.items (w.in-Ok.part ∷ [])) in
            here ∙ (operand_more read roles i j (j + 1) (element_of e) before rest (constraint_of w.in-Ok.part) next (role ∙ w.if-is_operand.true) w.in-Ok.ensures.ok
            ∙ sym (ap (λ (cs : List (Constraint ℕ)). operands_with read roles i (j + 1) cs rest) pushed)))
        | operands-else-is_operand w ↦
            (let kept : map constraint_of c.if-is_operand.parts.items ≡ before = ap (λ v. map constraint_of v.items) w.parts-is in
            here ∙ (operand_less read roles i j (j + 1) (element_of e) before rest next (role ∙ w.if-is_operand.false)
            ∙ sym (ap (λ (cs : List (Constraint ℕ)). operands_with read roles i (j + 1) cs rest) kept)))
      ];
    }

pub operands-returns-clause-ok : goal.operands-returns-clause-ok
operands-returns-clause-ok t c =
    let xs = c.args.elements.now in
    let read = formula_with c.args.depth c.args.names.now c.args.roles.now (elements_of xs) in
    c.loop-j.invariant.same
    ∙ done c.args.spans.now xs c.args.i c.requires.spans c.requires.within read c.args.roles.now c.loop-j.j (map constraint_of c.loop-j.parts.items) c.loop-j-test.false
