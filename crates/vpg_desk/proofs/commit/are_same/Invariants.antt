use Rattle.std.proofs.Common.{◌≡◌, length, take}
use Rattle.vpg_desk.proofs.commit.are_same.Given as goal

abbrev pub invariant-loop-f : goal.invariant-loop-f
invariant-loop-f l = (length l.one ≡ length l.other) × (take l.f l.one ≡ take l.f l.other)
