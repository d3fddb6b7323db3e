use Rattle.std.proofs.Common.{◌≡◌, take, min}
use Rattle.std.specs.Str.Parse.{digits_value}
use Rattle.vpg_script.proofs.arguments.bounded_value.Given as goal

abbrev pub invariant-loop-b : goal.invariant-loop-b
invariant-loop-b l = l.value ≡ min l.above (digits_value 10 (take l.b-index l.digits))
