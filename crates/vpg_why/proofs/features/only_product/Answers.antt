use Rattle.std.proofs.Common.{◌≡◌, true, false, Bool, List, sym, ◌∙◌, subst}
use Rattle.vpg_diagram.specs.FeatureDiagram.{IsProduct}
use Rattle.vpg_partial.specs.Known.{AgreesWithChoices}
use Rattle.vpg_why.specs.Explained.{choices}
use Rattle.vpg_why.proofs.ByFeatures.{is_it, only_it, has_choices, choices_had}
use Rattle.vpg_why.proofs.features.only_product.Goals as goal

clash : true ≡ false → ⊥
clash e = cc

pub returns-then-not-is_product-clause-none : goal.returns-then-not-is_product-clause-none
returns-then-not-is_product-clause-none c = λ t game features r m.
    let same = is_it c.args.diagram.now.lines (choices c.args.decisions.now) c.args.known.now c.in_ok-product.product.items c.requires.shown c.requires.full c.in_ok-product.ensures features r in
    clash (sym (c.is_product.ensures.1 (subst (λ (set : List Bool). IsProduct c.args.diagram.now.lines set) (same ∙ sym c.deref.ensures.value) r.product)) ∙ c.if-not-is_product.true)

pub returns-then-not-has_each-clause-none : goal.returns-then-not-has_each-clause-none
returns-then-not-has_each-clause-none c = λ t game features r m.
    let same = is_it c.args.diagram.now.lines (choices c.args.decisions.now) c.args.known.now c.in_ok-product.product.items c.requires.shown c.requires.full c.in_ok-product.ensures features r in
    clash (sym (c.has_each.ensures.1 (choices_had c.deref-2.result.now c.args.decisions.now (subst (λ (set : List Bool). AgreesWithChoices set (choices c.args.decisions.now)) (same ∙ sym c.deref-2.ensures.value) r.agrees))) ∙ c.if-not-has_each.true)

pub returns-clause-some : goal.returns-clause-some
returns-clause-some c =
    only_it c.args.diagram.now.lines (choices c.args.decisions.now) c.args.known.now c.in_ok-product.product.items c.requires.shown c.requires.full c.in_ok-product.ensures
    (subst (λ (set : List Bool). IsProduct c.args.diagram.now.lines set) c.deref.ensures.value (c.is_product.ensures.0 c.if-not-is_product.false))
    (subst (λ (set : List Bool). AgreesWithChoices set (choices c.args.decisions.now)) c.deref-2.ensures.value (has_choices c.deref-2.result.now c.args.decisions.now (c.has_each.ensures.0 c.if-not-has_each.false)))
