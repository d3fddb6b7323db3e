use Rattle.std.proofs.Common.{◌≡◌, drop}
use Rattle.vpg_winners.specs.Pairs.{mark_from}
use Rattle.vpg_winners.proofs.pairing.mark_from.Given as goal

-- the mark goes on with the literals that are left
abbrev pub invariant-loop-i : goal.invariant-loop-i
invariant-loop-i l = mark_from l.mark (drop l.i l.literals) ≡ mark_from l.begin l.literals
