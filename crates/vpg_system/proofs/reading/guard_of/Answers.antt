use Rattle.std.proofs.Common.{ap, ◌∙◌}
use Rattle.vpg_guards.specs.View.{formula_of}
use Rattle.vpg_guards.proofs.Again.{guard_again}
use Rattle.vpg_system.specs.SystemReading.{guard_of}
use Rattle.vpg_system.specs.SystemView.{text_in}
use Rattle.vpg_system.proofs.Steps.{guard_refused}
use Rattle.vpg_system.proofs.reading.guard_of.Goals as goal

pub returns-in-Ok-clause-ok : goal.returns-in-Ok-clause-ok
returns-in-Ok-clause-ok c =
    ap (λ t. guard_of c.args.features.now (text_in t)) c.in-Some.is
    ∙ guard_again c.args.features.now c.in-Some.text.now (formula_of c.in-Ok.guard) c.len-count.ensures.names c.in-Ok.ensures.found

pub returns-in-Err-clause-err : goal.returns-in-Err-clause-err
returns-in-Err-clause-err c =
    rw (c.in-Some.is, c.guard_error.ensures, c.guard_place.ensures) (guard_refused c.args.features.now c.in-Some.text.now c.args.line.now c.in-Err.fault c.in-Err.ensures.only)
