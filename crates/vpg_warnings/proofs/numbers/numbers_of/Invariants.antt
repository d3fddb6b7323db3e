use Rattle.std.proofs.Common.{◌≡◌, ◌++◌, drop}
use Rattle.vpg_warnings.specs.Numbers.{numbers_from}
use Rattle.vpg_warnings.proofs.numbers.numbers_of.Given as goal

abbrev pub invariant-loop-number : goal.invariant-loop-number
invariant-loop-number l = l.numbers.items ++ numbers_from l.number (drop l.number l.marks) ≡ numbers_from 0 l.marks
