use Rattle.std.proofs.Common.{◌≡◌, length, take}
use Rattle.vpg_game.proofs.edges.are_same.Given as goal

abbrev pub invariant-loop-i : goal.invariant-loop-i
invariant-loop-i l = (length l.edges ≡ length l.others) × (take l.i l.edges ≡ take l.i l.others)
