use Rattle.std.proofs.Common.{ℕ, ◌+◌, ◌*◌, min, ap, sym, take, ◌∙◌}
use Rattle.std.specs.Str.Parse.{digits_value}
use Rattle.std.proofs.lemmas.Int.Digits.{digits_value_more}
use Rattle.vpg_script.proofs.Commands.{capped}
use Rattle.vpg_script.proofs.arguments.bounded_value.Goals as goal

pub loop-b-preserved : goal.loop-b-preserved
loop-b-preserved c =
    let w = digits_value 10 (take c.loop-b.b-index c.args.digits.now) in
    c.min-value.ensures
    ∙ (ap (λ (d : ℕ). min c.args.above (c.loop-b.value * 10 + d)) c.digit.ensures.value
    ∙ (capped c.args.above c.loop-b.value w _ c.loop-b.invariant
    ∙ ap (λ (n : ℕ). min c.args.above n) (sym (digits_value_more 10 c.args.digits.now c.loop-b.b-index c.loop-b-test.true))))
