use Rattle.std.proofs.Common.{◌<◌, option_map, length, refl, sym, ap, ◌∙◌, subst, arith}
use Rattle.std.proofs.lemmas.List.{length-map}
use Rattle.std.proofs.lemmas.Grind.{common_steps}
use Rattle.vpg_system.specs.SystemReading.{NotState}
use Rattle.vpg_system.specs.SystemView.{view_form, view_name, header_of}
use Rattle.vpg_system.specs.ReadCode.{seen_in}
use Rattle.vpg_system.proofs.Steps.{no_source, no_target, err_passed, guard_error_passed}
use Rattle.vpg_system.proofs.reading.add_line.Goals as goal

pub returns-in_default-number_below-clause-err : goal.returns-in_default-number_below-clause-err
returns-in_default-number_below-clause-err c =
    let few : length (seen_in c.args.reader.now).transitions < c.args.header.count =
    grind (arith, common_steps, length-map) in (
      NotState,
      no_source c.args.features.now (header_of c.args.header) (seen_in c.args.reader.now) c.args.line.now (view_form c.in-Some.form)
          (sym c.form_of.ensures ∙ ap (option_map view_form) c.in-Some.is) few (view_name c.in-Some-name_of.name)
          (sym c.name_of.ensures ∙ ap (option_map view_name) c.in-Some-name_of.is) c.in_default-number_below.ensures.none,
      refl,
    )

pub returns-in_default-number_below-2-clause-err : goal.returns-in_default-number_below-2-clause-err
returns-in_default-number_below-2-clause-err c =
    let few : length (seen_in c.args.reader.now).transitions < c.args.header.count = grind (arith, common_steps, length-map) in (
      NotState,
      no_target c.args.features.now (header_of c.args.header) (seen_in c.args.reader.now) c.args.line.now (view_form c.in-Some.form)
          (sym c.form_of.ensures ∙ ap (option_map view_form) c.in-Some.is) few (view_name c.in-Some-name_of.name)
          (sym c.name_of.ensures ∙ ap (option_map view_name) c.in-Some-name_of.is)
          (let s = c.in-Some-number_below.ensures.some in subst (λ k. k < c.args.header.states) s.0 s.1) c.in_default-number_below-2.ensures.none,
      refl,
    )

pub returns-in_err-guard-clause-err : goal.returns-in_err-guard-clause-err
returns-in_err-guard-clause-err c =
    let few : length (seen_in c.args.reader.now).transitions < c.args.header.count = grind (arith, common_steps, length-map) in
    err_passed c.from_residual.result c.in_err-guard.field-0.0 _ c.from_residual.ensures.1
    (guard_error_passed c.args.features.now (header_of c.args.header) (seen_in c.args.reader.now) c.args.line.now (view_form c.in-Some.form)
    (sym c.form_of.ensures ∙ ap (option_map view_form) c.in-Some.is) few (view_name c.in-Some-name_of.name)
    (sym c.name_of.ensures ∙ ap (option_map view_name) c.in-Some-name_of.is)
    (let s = c.in-Some-number_below.ensures.some in subst (λ k. k < c.args.header.states) s.0 s.1)
    (let s = c.in-Some-number_below-2.ensures.some in subst (λ k. k < c.args.header.states) s.0 s.1)
    c.in_err-guard.field-0.0 c.in_err-guard.ensures.err)

pub returns-clause-ok : goal.returns-clause-ok
returns-clause-ok c = grind (arith, common_steps)
