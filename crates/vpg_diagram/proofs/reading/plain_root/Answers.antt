use Rattle.std.proofs.Common.{option_map, inr, refl, sym, ap, ◌∙◌, arith}
use Rattle.std.proofs.lemmas.Grind.{common_steps}
use Rattle.vpg_diagram.specs.DiagramReading.{At, Syntax, UnknownFeature, after_root, form_by_word}
use Rattle.vpg_diagram.specs.FormView.{view_form}
use Rattle.vpg_diagram.proofs.ReadLoop.{no_root_form, ok_keeps, err_keeps}
use Rattle.vpg_diagram.proofs.reading.plain_root.Goals as goal
use Rattle.vpg_diagram.proofs.reading.plain_root.Goals.{in-Root, in_default-form}

pub returns-in_default-clause-refused : goal.returns-in_default-clause-refused
returns-in_default-clause-refused c rest = inr (At c.args.number Syntax, ap (λ o. after_root c.args.number o rest) (ap (form_by_word c.args.line.now) c.requires ∙ sym c.in_ok-form.ensures ∙ ap (option_map view_form) c.in_default.is), refl)

pub returns-clause-refused : goal.returns-clause-refused
returns-clause-refused c = elim c.match-form.branch [
  | in-Root w ↦ ok_keeps c.match-form.result _ _ w.result-is
  | in_default-form w ↦ err_keeps c.match-form.result _ _ w.result-is (λ rest. inr (
    At c.args.number UnknownFeature,
    ap (λ o. after_root c.args.number o rest) (ap (form_by_word c.args.line.now) c.requires ∙ sym c.in_ok-form.ensures ∙ ap (option_map view_form) c.in-Some.is) ∙ no_root_form c.args.number c.in-Some.form rest w.in_default-form.not-Root,
    refl,
  ))
]

pub returns-clause-name : goal.returns-clause-name
returns-clause-name c = grind (arith, common_steps, ap (form_by_word c.args.line.now) c.requires)
