use Rattle.std.proofs.Common.{◌≡◌, take}
use Rattle.vpg_why.specs.Reasons.{either_of}
use Rattle.vpg_why.proofs.searching.either.Given as goal

abbrev pub invariant-loop-i : goal.invariant-loop-i
invariant-loop-i l = l.marks.items ≡ either_of (take l.i l.one) (take l.i l.other)
