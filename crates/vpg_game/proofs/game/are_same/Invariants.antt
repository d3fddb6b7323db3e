use Rattle.std.proofs.Common.{◌≡◌, length, take}
use Rattle.vpg_game.proofs.game.are_same.Given as goal

abbrev pub invariant-loop-v : goal.invariant-loop-v
invariant-loop-v l = (length l.vertices ≡ length l.others) × (take l.v l.vertices ≡ take l.v l.others)
