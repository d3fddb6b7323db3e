use Rattle.std.proofs.Common.{◌≡◌, ◌≤◌, ◌^◌, drop, min}
use Rattle.std.specs.Str.Parse.{digits_value, digits_value_after}
use Rattle.vpg_uvl.proofs.item.number.Given as goal

abbrev pub invariant-loop-digit : goal.invariant-loop-digit
invariant-loop-digit l = record {
  small : l.value ≤ 2 ^ 30;
  rest : min (digits_value_after 10 l.value (drop l.digit-index l.digits)) (2 ^ 30) ≡ min (digits_value 10 l.digits) (2 ^ 30);
}
