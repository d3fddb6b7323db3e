use Rattle.std.proofs.Common.{◌≡◌, ◌-◌, ◌<◌, ℕ, length, vec_len, sym, ap, ◌∙◌, arith}
use Rattle.std.proofs.lemmas.Grind.{common_steps}
use Rattle.std.proofs.lemmas.Result.{err_from_is_err_and}
use Rattle.vpg_guards.specs.Reading.{after_blanks}
use Rattle.vpg_game.specs.Spelled.{SpelledEntry}
use Rattle.vpg_game.specs.Reading.{entry_at, within}
use Rattle.vpg_game.proofs.Fronts.{not_empty, is_empty}
use Rattle.vpg_game.proofs.Steps.{fails_from, later, entries_end, entries_go, entries_turn}
use Rattle.vpg_game.proofs.reading.entries.Goals as goal

pub returns-in_err-next : goal.returns-in_err-next
returns-in_err-next c =
    let p = err_from_is_err_and c.from_residual-in_err-next.result c.from_residual-in_err-next.ensures.1 in
    let l = c.loop-rest in
    let n : ℕ = 65536 - vec_len l.items in
    let same : 65536 - c.len.result ≡ n = ap (λ (k : ℕ). 65536 - k) c.len.ensures in
    let here : 0 < length (after_blanks l.rest.now) = rw (← c.after_blanks.ensures.rest) (not_empty c.after_blanks.result.now (sym c.is_empty.ensures ∙ c.loop-rest-test.true)) in
    rw (p.1, p.2) (fails_from c.in_err-next.field-0.0 (within n (entry_at c.args.names.now l.left l.rest.now)) _ (later c.args.names.now n l.left l.items.items)
    (l.invariant.2 ∙ entries_go c.args.names.now n l.left l.items.items l.rest.now here) (rw (← same) c.in_err-next.ensures.gives))

pub loop-rest-preserved : goal.loop-rest-preserved
loop-rest-preserved c =
    let l = c.loop-rest in
    let n : ℕ = 65536 - vec_len l.items in
    let same : 65536 - c.len.result ≡ n = ap (λ (k : ℕ). 65536 - k) c.len.ensures in
    let here : 0 < length (after_blanks l.rest.now) = rw (← c.after_blanks.ensures.rest) (not_empty c.after_blanks.result.now (sym c.is_empty.ensures ∙ c.loop-rest-test.true)) in
    let more = c.in-Ok-push.ensures.len in
    let room = c.in_ok-next.ensures.room in
    let short = c.in_ok-next.ensures.shorter in
    let one = l.invariant.0 in
    let two = l.invariant.1 in (
      omega arith,
      omega arith,
      l.invariant.2 ∙ entries_turn c.args.names.now n _ l.left _ l.items.items c.push-in-loop-rest.new.self.items l.rest.now c.in_ok-next.after.now c.in_ok-next.next here
          (rw (← same) c.in_ok-next.ensures.gives) (omega arith) (let items : length c.next.inside.successors.items ≡ length c.in_ok-next.next.successors = ap (λ (e : SpelledEntry). length e.successors) c.next.view_is in omega (arith, items, c.next.inside.successors.ok.0, c.len-left-in-loop-rest.ensures)) c.in-Ok-push.ensures.items,
    )

pub returns : goal.returns
returns c =
    let l = c.loop-rest in
    l.invariant.2 ∙ entries_end c.args.names.now _ l.left l.items.items l.rest.now (sym c.after_blanks.ensures.rest ∙ is_empty c.after_blanks.result.now (sym c.is_empty.ensures ∙ c.loop-rest-test.false))

pub loop-rest-smaller : goal.loop-rest-smaller
loop-rest-smaller c = grind (arith, common_steps)

pub loop-rest-init : goal.loop-rest-init
loop-rest-init c = grind (arith, common_steps)

pub overflow_sub-left-in-loop-rest : goal.overflow_sub-left-in-loop-rest
overflow_sub-left-in-loop-rest c = grind (arith, common_steps)
