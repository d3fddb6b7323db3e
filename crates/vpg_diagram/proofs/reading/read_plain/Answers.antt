use Rattle.std.proofs.Common.{option_map, inl, refl, sym, ap, ◌∙◌}
use Rattle.vpg_diagram.specs.DiagramReading.{form_by_word}
use Rattle.vpg_diagram.specs.FormView.{view_form}
use Rattle.vpg_diagram.proofs.ReadLoop.{form_read, form_refused}
use Rattle.vpg_diagram.proofs.reading.read_plain.Goals as goal

pub returns-clause-line : goal.returns-clause-line
returns-clause-line c =
    form_read c.args.names.now c.line_at.new.names c.args.rules c.args.bytes.now (view_form c.in-Some.form) c.line_at.result
    (ap (form_by_word c.args.bytes.now) c.requires ∙ sym c.in_ok-form.ensures ∙ ap (option_map view_form) c.in-Some.is) c.line_at.ensures.line c.line_at.ensures.names

pub returns-clause-refused : goal.returns-clause-refused
returns-clause-refused c =
    form_refused c.args.names.now c.args.rules c.args.bytes.now (view_form c.in-Some.form) c.line_at.result
    (ap (form_by_word c.args.bytes.now) c.requires ∙ sym c.in_ok-form.ensures ∙ ap (option_map view_form) c.in-Some.is) c.line_at.ensures.refused

pub returns-in_default-clause-refused : goal.returns-in_default-clause-refused
returns-in_default-clause-refused c = inl (ap (form_by_word c.args.bytes.now) c.requires ∙ sym c.in_ok-form.ensures ∙ ap (option_map view_form) c.in_default.is, refl)
