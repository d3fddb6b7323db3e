use Rattle.std.proofs.Common.{◌≡◌, ◌+◌, refl, ap, ◌∙◌, arith}
use Rattle.std.proofs.lemmas.Grind.{common_steps}
use Rattle.std.specs.Str.Lines.{lines}
use Rattle.vpg_diagram.specs.DiagramReading.{read_root, reading, form_of}
use Rattle.vpg_diagram.specs.ReadCode.{IsReadingFault}
use Rattle.vpg_diagram.proofs.ReadLoop.{some_words, root_here, err_passed, fault_through}
use Rattle.vpg_diagram.proofs.reading.read_root.Goals as goal

pub returns-in_err-name-clause-refused : goal.returns-in_err-name-clause-refused
returns-in_err-name-clause-refused c =
    let line = c.first_line.result.0.now in
    let behind = lines c.first_line.result.1.now in
    let here : reading c.args.text.now ≡ _ = c.loop-rest.invariant.reads ∙ (ap (read_root (c.loop-rest.number + 1)) c.first_line.ensures.lines ∙
    root_here (c.loop-rest.number + 1) line behind (form_of line) (some_words line c.is_blank_line.result c.is_blank_line.ensures c.if-not-is_blank_line.true) refl) in
    err_passed c.from_residual.result c.in_err-name.field-0.0 (IsReadingFault (reading c.args.text.now)) c.from_residual.ensures.1
    (fault_through _ _ c.in_err-name.field-0.0 here (c.in_err-name.ensures.refused behind))

pub returns-then-not-is_blank_line-clause-root : goal.returns-then-not-is_blank_line-clause-root
returns-then-not-is_blank_line-clause-root c = grind (arith, common_steps)

pub returns-clause-refused : goal.returns-clause-refused
returns-clause-refused c = grind (arith, common_steps)

pub returns-then-not-is_blank_line-clause-number : goal.returns-then-not-is_blank_line-clause-number
returns-then-not-is_blank_line-clause-number c = grind (arith, common_steps)
