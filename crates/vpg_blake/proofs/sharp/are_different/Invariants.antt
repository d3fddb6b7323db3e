use Rattle.vpg_blake.proofs.Different.{DifferentBefore}
use Rattle.vpg_blake.proofs.sharp.are_different.Given as goal

abbrev pub invariant-loop-i : goal.invariant-loop-i
invariant-loop-i l = DifferentBefore l.i l.numbers
