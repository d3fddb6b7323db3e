use Rattle.std.proofs.Common.{◌≡◌, ℕ, ◌+◌, ◌++◌, ◌∷◌, [], suc, true, List, drop, map, sym, ap, ◌∙◌, arith}
use Rattle.std.specs.Prelude.{slice_index_or}
use Rattle.std.proofs.lemmas.List.{map-append}
use Rattle.vpg_rules.specs.Constraint.{Constraint}
use Rattle.vpg_rules.specs.View.{constraint_of}
use Rattle.vpg_xml.specs.View.{element_of, elements_of}
use Rattle.vpg_featureide.specs.Roles.{Outside}
use Rattle.vpg_featureide.specs.Formulas.{is_rule, rules_with}
use Rattle.vpg_featureide.proofs.Formed.{rules_here, rules_err, rules_more, rules_less, refused_along}
use Rattle.vpg_featureide.proofs.formula.rules_in_spans.Goals as goal
use Rattle.vpg_featureide.proofs.formula.rules_in_spans.Goals.{then-is_rule+in-Ok+in-Ok-push, else-is_rule}

pub returns-in-Err-clause-err : goal.returns-in-Err-clause-err
returns-in-Err-clause-err c =
    let names = c.args.names.now in
    let roles = c.args.roles.now in
    let xs = c.args.elements.now in
    let i = c.loop-i.i in
    let e = c.index-elements-i.result in
    let before : List (Constraint ℕ) = map constraint_of c.loop-i.found.items in
    let is : is_rule (slice_index_or roles i Outside) ≡ true = sym (ap is_rule c.role_at.ensures) ∙ (sym c.is_rule.ensures ∙ c.if-is_rule.true) in
    refused_along _ _ c.in-Err.fault (c.loop-i.invariant ∙ rules_here names roles (elements_of xs) xs i e before c.loop-i-test.true c.index-elements-i.is)
    (rules_err names roles (elements_of xs) i (element_of e) before (elements_of (drop (i + 1) xs)) c.in-Err.fault is c.in-Err.ensures.err)

pub loop-i-preserved : goal.loop-i-preserved
loop-i-preserved c =
    let names = c.args.names.now in
    let roles = c.args.roles.now in
    let xs = c.args.elements.now in
    let d = elements_of xs in
    let i = c.loop-i.i in
    let e = c.index-elements-i.result in
    let before : List (Constraint ℕ) = map constraint_of c.loop-i.found.items in
    let rest = elements_of (drop (i + 1) xs) in
    let role : is_rule (slice_index_or roles i Outside) ≡ c.is_rule.result = sym (ap is_rule c.role_at.ensures) ∙ sym c.is_rule.ensures in
    let here = c.loop-i.invariant ∙ rules_here names roles d xs i e before c.loop-i-test.true c.index-elements-i.is in
    let next : i + 1 ≡ suc i = omega arith in
    elim c.if-is_rule.branch [
      | then-is_rule+in-Ok+in-Ok-push w ↦
          (let items : w.push.new.self.items ≡ c.loop-i.found.items ++ w.in-Ok.rule ∷ [] = w.in-Ok-push.ensures.items in
          let pushed : map constraint_of c.if-is_rule.found.items ≡ before ++ constraint_of w.in-Ok.rule ∷ [] =
          ap (λ v. map constraint_of v.items) w.found-is ∙ (ap (λ rs. map constraint_of rs) items ∙ map-append constraint_of c.loop-i.found.items (w.in-Ok.rule ∷ [])) in
          here ∙ (rules_more names roles d i (i + 1) (element_of e) before rest (constraint_of w.in-Ok.rule) next (role ∙ w.if-is_rule.true) w.in-Ok.ensures.ok
          ∙ sym (ap (λ (cs : List (Constraint ℕ)). rules_with names roles d (i + 1) cs rest) pushed)))
      | else-is_rule w ↦
          (let kept : map constraint_of c.if-is_rule.found.items ≡ before = ap (λ v. map constraint_of v.items) w.found-is in
          here ∙ (rules_less names roles d i (i + 1) (element_of e) before rest next (role ∙ w.if-is_rule.false)
          ∙ sym (ap (λ (cs : List (Constraint ℕ)). rules_with names roles d (i + 1) cs rest) kept)))
    ]
