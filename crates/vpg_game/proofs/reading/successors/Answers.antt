use Rattle.std.proofs.Common.{◌≡◌, ◌-◌, ◌++◌, ◌∷◌, ℕ, List, [], vec_len, sym, ap, ◌∙◌, arith, Some}
use Rattle.std.proofs.lemmas.Grind.{common_steps}
use Rattle.std.proofs.lemmas.Result.{err_from_is_err_and}
use Rattle.vpg_game.specs.Spelled.{SpelledSuccessor}
use Rattle.vpg_game.specs.Reading.{successor_at, within}
use Rattle.vpg_game.proofs.Steps.{fails_from, further, no_successors, some_successors, more_ends, more_goes, successors_turn, successors_start}
use Rattle.vpg_game.proofs.reading.successors.Goals as goal

pub returns-then-not-starts_with_digit-clause-gives : goal.returns-then-not-starts_with_digit-clause-gives
returns-then-not-starts_with_digit-clause-gives c =
    no_successors c.args.names.now c.args.left c.args.text.now (sym c.starts_with_digit.ensures ∙ c.if-not-starts_with_digit.true)
    ∙ ap (λ (ss : List SpelledSuccessor). Some (ss, c.args.text.now)) (sym c.new-items.ensures.items)

pub returns-in_err-first-clause-gives : goal.returns-in_err-first-clause-gives
returns-in_err-first-clause-gives c =
    let p = err_from_is_err_and c.from_residual.result c.from_residual.ensures.1 in
    rw (p.1, p.2) (fails_from c.in_err-first.field-0.0 (within c.args.left (successor_at c.args.names.now c.args.text.now)) _ (further c.args.names.now c.args.left [])
    (some_successors c.args.names.now c.args.left c.args.text.now (sym c.starts_with_digit.ensures ∙ c.if-not-starts_with_digit.false)) c.in_err-first.ensures.gives)

pub loop-behind-init : goal.loop-behind-init
loop-behind-init c =
    let one = c.in-Ok.ensures.len in
    let none = c.new-items.ensures.len in
    let room = c.in_ok-first.ensures.left in
    let short = c.in_ok-first.ensures.shorter in (
      omega arith,
      omega arith,
      successors_start c.args.names.now c.args.left _ c.push.new.self.items c.args.text.now c.in_ok-first.rest.now c.in_ok-first.first (sym c.starts_with_digit.ensures ∙ c.if-not-starts_with_digit.false)
          c.in_ok-first.ensures.gives (omega arith) (c.in-Ok.ensures.items ∙ ap (λ (ss : List SpelledSuccessor). ss ++ c.in_ok-first.first ∷ []) c.new-items.ensures.items),
    )

pub returns-in_err-next-clause-gives : goal.returns-in_err-next-clause-gives
returns-in_err-next-clause-gives c =
    let p = err_from_is_err_and c.from_residual-in_err-next.result c.from_residual-in_err-next.ensures.1 in
    let l = c.loop-behind in
    let n : ℕ = c.args.left - vec_len l.items in
    let same : c.args.left - c.len.result ≡ n = ap (λ (k : ℕ). c.args.left - k) c.len.ensures in
    rw (p.1, p.2) (fails_from c.in_err-next.field-0.0 (within n (successor_at c.args.names.now c.in-Some.behind.now)) _ (further c.args.names.now n l.items.items)
    (l.invariant.2 ∙ more_goes c.args.names.now n l.items.items l.rest.now c.in-Some.behind.now (sym c.in-Some.ensures.rest)) (rw (← same) c.in_err-next.ensures.gives))

pub loop-behind-preserved : goal.loop-behind-preserved
loop-behind-preserved c =
    let l = c.loop-behind in
    let n : ℕ = c.args.left - vec_len l.items in
    let same : c.args.left - c.len.result ≡ n = ap (λ (k : ℕ). c.args.left - k) c.len.ensures in
    let more = c.in-Ok-push.ensures.len in
    let room = c.in_ok-next.ensures.left in
    let short = c.in_ok-next.ensures.shorter in
    let shorter = c.in-Some.ensures.shorter in
    let one = l.invariant.0 in
    let two = l.invariant.1 in (
      omega arith,
      omega arith,
      l.invariant.2 ∙ successors_turn c.args.names.now n _ l.items.items c.push-in-Some.new.self.items l.rest.now c.in-Some.behind.now c.in_ok-next.after.now c.in_ok-next.next (sym c.in-Some.ensures.rest)
          (rw (← same) c.in_ok-next.ensures.gives) (omega arith) c.in-Ok-push.ensures.items,
    )

pub returns-clause-gives : goal.returns-clause-gives
returns-clause-gives c =
    let l = c.loop-behind in
    l.invariant.2 ∙ more_ends c.args.names.now _ _ l.rest.now (sym c.in_default-after_sign.ensures.rest)

pub loop-behind-smaller : goal.loop-behind-smaller
loop-behind-smaller c = grind (arith, common_steps)
