use Rattle.std.proofs.Common.{true, sym}
use Rattle.std.proofs.lemmas.Result.{err_from_is_err_and}
use Rattle.vpg_formula.specs.ReadCode.{texts}
use Rattle.vpg_formula.specs.EntryCode.{earlier_of}
use Rattle.vpg_formula.proofs.RegularCode.{texts_length}
use Rattle.vpg_formula.proofs.StopCode.{body_stops, no_semicolon}
use Rattle.vpg_formula.proofs.requirement.read_entry.Goals as goal

pub returns-in_err-marks-clause-at : goal.returns-in_err-marks-clause-at
returns-in_err-marks-clause-at c =
    let p = err_from_is_err_and c.from_residual.result c.from_residual.ensures.1 in
    rw (p.1, p.2) (c.in_err-marks.ensures.at true)

pub returns-in_default-clause-at : goal.returns-in_default-clause-at
returns-in_default-clause-at c =
    body_stops true (earlier_of c.args.entries.now) (texts c.args.words.now) (texts c.in_ok-marks.rest.now) _ _ _ c.in_ok-marks.ensures.body (no_semicolon (texts c.in_ok-marks.rest.now) (sym c.in_default.ensures.rest)) (sym (texts_length c.in_ok-marks.rest.now))
