use Rattle.std.proofs.lemmas.Grind.{common_steps}
use Rattle.std.proofs.Common.{length, vec_len, sym, ap, ◌∙◌, arith}
use Rattle.std.specs.List.{list_all}
use Rattle.vpg_diagram.specs.DiagramReading.{is_feature_name}
use Rattle.vpg_diagram.specs.FormView.{texts}
use Rattle.vpg_diagram.proofs.FormCode.{range_form, some_items}
use Rattle.vpg_diagram.proofs.text.range_form.Goals as goal

pub returns-then-is_numeral-2 : goal.returns-then-is_numeral-2
returns-then-is_numeral-2 c =
    range_form c.args.word.now c.args.parent.now c.args.low.now c.args.high.now c.args.members.items
    (some_items (vec_len c.args.members) (length c.args.members.items) c.args.members.ok.0 c.is_empty.result c.is_empty.ensures c.if-is_empty.false)
    (sym c.same.ensures ∙ c.if-same.true) (sym c.is_numeral.ensures ∙ c.if-is_numeral.true) (sym c.is_numeral-then-is_numeral.ensures ∙ c.if-is_numeral-2.true)
    (sym c.is_name.ensures ∙ c.if-not-is_name.false)
    (ap (λ ws. list_all is_feature_name (texts ws)) (sym c.deref.ensures.value) ∙ (sym c.are_names.ensures ∙ c.if-not-are_names.false))

pub returns-then-is_empty : goal.returns-then-is_empty
returns-then-is_empty c = grind (arith, common_steps)
