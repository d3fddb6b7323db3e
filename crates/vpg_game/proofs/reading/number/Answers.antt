use Rattle.std.proofs.Common.{sym, ◌∙◌}
use Rattle.std.proofs.lemmas.Result.{err_from_is_err_and}
use Rattle.vpg_game.proofs.Steps.{fails_too, number_fails, number_large, number_small}
use Rattle.vpg_game.proofs.reading.number.Goals as goal

pub returns-in_err-digits-clause-gives : goal.returns-in_err-digits-clause-gives
returns-in_err-digits-clause-gives c =
    let p = err_from_is_err_and c.from_residual.result c.from_residual.ensures.1 in
    rw (p.1, p.2) (number_fails c.args.limit c.args.text.now c.in_err-digits.field-0.0 c.in_err-digits.ensures.gives)

pub returns-then-value-limit-clause-gives : goal.returns-then-value-limit-clause-gives
returns-then-value-limit-clause-gives c =
    let none = number_large c.args.limit c.args.text.now _ _ c.in_ok-digits.ensures.gives (sym c.bounded_value-value.ensures ∙ c.if-value-limit.true) in
    fails_too c.args.wrong _ _ (λ n. none) c.requires.wrong

pub returns-clause-gives : goal.returns-clause-gives
returns-clause-gives c = number_small c.args.limit _ c.args.text.now _ _ c.in_ok-digits.ensures.gives c.bounded_value-value.ensures c.if-value-limit.false
