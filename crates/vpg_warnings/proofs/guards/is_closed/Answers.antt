use Rattle.std.proofs.Common.{map}
use Rattle.vpg_guards.specs.View.{formula_of}
use Rattle.vpg_partial.specs.Known.{literal_of}
use Rattle.vpg_warnings.specs.Guards.{contradicted}
use Rattle.vpg_warnings.proofs.Refuted.{found_value}
use Rattle.vpg_warnings.proofs.guards.is_closed.Goals as goal

pub returns-in-Ok : goal.returns-in-Ok
returns-in-Ok c =
    found_value c.args.diagram.now.lines (formula_of c.args.guard.now) (map literal_of c.args.decisions.now) c.in-Ok.known c.is_no.result c.in-Ok.ensures.known
    (rw (← c.values.ensures, ← c.kleene.ensures) c.is_no.ensures)

pub returns-in-Err-Conflict : goal.returns-in-Err-Conflict
returns-in-Err-Conflict c = contradicted c.in-Err-Conflict.field-0-0 (rw c.in-Err-Conflict.field-0-is at c.in-Err-Conflict.ensures.conflict)
