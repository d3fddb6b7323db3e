use Rattle.std.proofs.Common.{◌∙◌, ◌^◌, arith}
use Rattle.std.proofs.lemmas.Grind.{common_steps}
use Rattle.std.proofs.lemmas.Result.{err_from_is_err_and}
use Rattle.vpg_guards.specs.Reading.{◌>>=◌}
use Rattle.vpg_game.specs.Reading.{successor_at, bracket_at, number_at, with_guard}
use Rattle.vpg_game.proofs.Steps.{fails_bind, fails_within, fails_from, bind_is, within_some}
use Rattle.vpg_game.proofs.reading.successor.Goals as goal

pub returns-in_err-id-clause-gives : goal.returns-in_err-id-clause-gives
unfolding successor_at
returns-in_err-id-clause-gives c =
    let p = err_from_is_err_and c.from_residual.result c.from_residual.ensures.1 in
    rw (p.1, p.2) (fails_within c.args.left c.in_err-id.field-0.0 _ (fails_bind c.in_err-id.field-0.0 (number_at (2 ^ 32) c.args.text.now) (λ x. bracket_at c.args.names.now x.1 >>= with_guard x.0) c.in_err-id.ensures.gives))

pub returns-in_err-guard-clause-gives : goal.returns-in_err-guard-clause-gives
unfolding successor_at
returns-in_err-guard-clause-gives c =
    let p = err_from_is_err_and c.from_residual-in_err-guard.result c.from_residual-in_err-guard.ensures.1 in
    let is = bind_is (number_at (2 ^ 32) c.args.text.now) (λ x. bracket_at c.args.names.now x.1 >>= with_guard x.0) _ c.in_ok-id.ensures.gives in
    rw (p.1, p.2) (fails_within c.args.left c.in_err-guard.field-0.0 _ (fails_from c.in_err-guard.field-0.0 _ _ (with_guard c.in_ok-id.id) is c.in_err-guard.ensures.gives))

pub returns-clause-gives : goal.returns-clause-gives
unfolding successor_at
returns-clause-gives c =
    let is = bind_is (number_at (2 ^ 32) c.args.text.now) (λ x. bracket_at c.args.names.now x.1 >>= with_guard x.0) _ c.in_ok-id.ensures.gives in
    within_some c.args.left _ (omega arith) ∙ is ∙ bind_is _ (with_guard c.in_ok-id.id) _ c.in_ok-guard.ensures.gives

pub bracket-requires : goal.bracket-requires
bracket-requires c = grind (arith, common_steps)

pub returns-then-left-eq0-clause-gives : goal.returns-then-left-eq0-clause-gives
returns-then-left-eq0-clause-gives c = grind (arith, common_steps)

pub returns-clause-shorter : goal.returns-clause-shorter
returns-clause-shorter c = grind (arith, common_steps)

pub overflow_cast-result : goal.overflow_cast-result
overflow_cast-result c = grind (arith, common_steps)
