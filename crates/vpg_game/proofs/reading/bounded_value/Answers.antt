use Rattle.std.proofs.Common.{ℕ, ◌+◌, ◌*◌, min, take, sym, ap, ◌∙◌}
use Rattle.std.specs.Str.Parse.{digits_value}
use Rattle.std.proofs.lemmas.Int.Digits.{digits_value_more}
use Rattle.vpg_game.proofs.Steps.{capped}
use Rattle.vpg_game.proofs.reading.bounded_value.Goals as goal

pub loop-b-preserved : goal.loop-b-preserved
loop-b-preserved c =
    let i = c.loop-b.b-index in
    let ds = c.args.digits.now in
    c.min-value.ensures ∙ ap (λ (d : ℕ). min c.args.limit (c.loop-b.value * 10 + d)) c.digit.ensures.value
    ∙ capped c.args.limit c.loop-b.value (digits_value 10 (take i ds)) _ c.loop-b.invariant
    ∙ ap (min c.args.limit) (sym (digits_value_more 10 ds i c.loop-b-test.true))
