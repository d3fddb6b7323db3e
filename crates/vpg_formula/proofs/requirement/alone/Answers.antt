use Rattle.std.proofs.Common.{List, ℕ, false, length, ap, subst, ◌∙◌}
use Rattle.std.proofs.lemmas.Result.{err_from_is_err_and}
use Rattle.vpg_formula.specs.ReadCode.{texts}
use Rattle.vpg_formula.specs.EntryCode.{earlier_of}
use Rattle.vpg_formula.specs.FaultCode.{IsLeft, IsStopped, BodyAt}
use Rattle.vpg_formula.specs.Stops.{IsStuckAt}
use Rattle.vpg_formula.proofs.StopCode.{alone_behind}
use Rattle.vpg_formula.proofs.requirement.alone.Goals as goal

pub returns-in_err-marks-clause-at : goal.returns-in_err-marks-clause-at
returns-in_err-marks-clause-at c =
    let p = err_from_is_err_and c.from_residual.result c.from_residual.ensures.1 in
    rw (p.1, p.2) (subst (λ (names : List (List ℕ)). BodyAt false names (texts c.args.words.now) c.in_err-marks.field-0.0) (ap earlier_of (c.deref.ensures.value ∙ c.new-entries.ensures.items)) (c.in_err-marks.ensures.at false))

pub returns-then-not-is_empty-clause-at : goal.returns-then-not-is_empty-clause-at
returns-then-not-is_empty-clause-at c =
    subst (λ (names : List (List ℕ)). IsLeft (texts c.args.words.now) (length c.in_ok-marks.rest.now) (IsStopped names (texts c.args.words.now) (IsStuckAt false (texts c.args.words.now)))) (ap earlier_of (c.deref.ensures.value ∙ c.new-entries.ensures.items))
    (alone_behind (earlier_of c.deref.result.now) (texts c.args.words.now) c.in_ok-marks.rest.now _ _ c.is_empty.result c.in_ok-marks.ensures.body c.is_empty.ensures c.if-not-is_empty.true)
