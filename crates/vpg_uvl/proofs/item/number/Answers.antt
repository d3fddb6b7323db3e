use Rattle.std.proofs.Common.{◌≡◌, ◌*◌, ◌+◌, ◌^◌, drop, min, slice_index_or, sym, ap, ◌∙◌, arith}
use Rattle.std.specs.Char.{digit_value}
use Rattle.std.specs.Str.Parse.{digits_value_after}
use Rattle.std.proofs.lemmas.List.{at_drop_more}
use Rattle.vpg_uvl.proofs.LineCode.{bounded_digits, digit_or_36}
use Rattle.vpg_uvl.proofs.item.number.Goals as goal

pub loop-digit-preserved : goal.loop-digit-preserved
loop-digit-preserved c =
    let x = c.loop-digit.value in
    let i = c.loop-digit.digit-index in
    let b = slice_index_or c.args.digits.now i 0 in
    let d : c.from-in-loop-digit.result ≡ digit_value b = c.from-in-loop-digit.ensures ∙ (c.unwrap_or-digit.ensures ∙ (digit_or_36 c.to_digit.result c.from.result c.to_digit.ensures.value ∙ ap digit_value c.from.ensures)) in
    let v : c.min-value.result ≡ min (x * 10 + digit_value b) (2 ^ 30) = c.min-value.ensures ∙ ap (λ k. min (x * 10 + k) (2 ^ 30)) d in
    record {
      small = omega (arith, v);
      rest = bounded_digits (drop (i + 1) c.args.digits.now) c.min-value.result (x * 10 + digit_value b) (2 ^ 30) (omega (arith, v))
          ∙ (sym (at_drop_more (λ ds. min (digits_value_after 10 x ds) (2 ^ 30)) c.args.digits.now i 0 c.loop-digit-test.true) ∙ c.loop-digit.invariant.rest);
    }
