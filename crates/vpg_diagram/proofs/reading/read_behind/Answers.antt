use Rattle.std.proofs.Common.{◌+◌, sym, ap, ◌∙◌, inr, subst, arith}
use Rattle.std.proofs.lemmas.Grind.{common_steps}
use Rattle.std.specs.Str.Lines.{lines}
use Rattle.vpg_diagram.specs.DiagramReading.{At, read_lines}
use Rattle.vpg_diagram.specs.LineView.{lines_of}
use Rattle.vpg_diagram.specs.ReadCode.{IsLineError}
use Rattle.vpg_diagram.specs.TextFaults.{fault_at}
use Rattle.vpg_diagram.specs.declared.fault.LineError.{LineError}
use Rattle.vpg_diagram.proofs.ReadLoop.{continued, some_words, lines_after_line, line_refused}
use Rattle.vpg_diagram.proofs.reading.read_behind.Goals as goal

pub loop-rest-preserved : goal.loop-rest-preserved
loop-rest-preserved c =
    let old = c.loop-rest.reader in
    let number = c.loop-rest.number + 1 in
    let line = c.first_line.result.0.now in
    let behind = lines c.first_line.result.1.now in
    let written = some_words line c.is_blank_line.result c.is_blank_line.ensures c.if-is_blank_line.false in
    record {
      reads = sym (lines_after_line number line behind old c.add_line.new.reader written c.in-Ok.ensures.ok)
          ∙ (ap (λ ls. continued old.names (lines_of old.lines.items) (read_lines number ls old.names old.rules)) (sym c.first_line.ensures.lines) ∙ c.loop-rest.invariant.reads);
      rules = c.in-Ok.ensures.bound;
      count = (let s = c.first_line.ensures.shorter in let n = c.loop-rest.invariant.count in omega (arith, s, n));
    }

pub returns-in-Err-Refused-clause-refused : goal.returns-in-Err-Refused-clause-refused
returns-in-Err-Refused-clause-refused c =
    let old = c.loop-rest.reader in
    let number = c.loop-rest.number + 1 in
    let line = c.first_line.result.0.now in
    let behind = lines c.first_line.result.1.now in
    let written = some_words line c.is_blank_line.result c.is_blank_line.ensures c.if-is_blank_line.false in
    let why = subst (λ (e : LineError). IsLineError old.names old.rules line e) c.in-Err-Refused.field-0-is c.in-Err-Refused.ensures.refused in
    inr (
      At number c.in-Err-Refused.kind,
      sym c.loop-rest.invariant.reads ∙ (ap (λ ls. continued old.names (lines_of old.lines.items) (read_lines number ls old.names old.rules)) c.first_line.ensures.lines ∙ line_refused number line behind old c.in-Err-Refused.kind written why),
      c.at.ensures ∙ ap (fault_at number) c.in-Err-Refused.kind-is,
    )

pub returns-clause-read : goal.returns-clause-read
returns-clause-read c = grind (arith, common_steps)

pub returns-in-Err-Memory-clause-refused : goal.returns-in-Err-Memory-clause-refused
returns-in-Err-Memory-clause-refused c = grind (arith, common_steps)

pub first_line-requires : goal.first_line-requires
first_line-requires c = grind (arith, common_steps)

pub loop-rest-smaller : goal.loop-rest-smaller
loop-rest-smaller c = grind (arith, common_steps)

pub loop-rest-smaller-then-is_blank_line : goal.loop-rest-smaller-then-is_blank_line
loop-rest-smaller-then-is_blank_line c = grind (arith, common_steps)

pub loop-rest-preserved-then-is_blank_line : goal.loop-rest-preserved-then-is_blank_line
loop-rest-preserved-then-is_blank_line c = grind (arith, common_steps)

pub add_line-requires : goal.add_line-requires
add_line-requires c = grind (arith, common_steps)

pub overflow_add-number : goal.overflow_add-number
overflow_add-number c = grind (arith, common_steps)

pub loop-rest-init : goal.loop-rest-init
loop-rest-init c = grind (arith, common_steps)
