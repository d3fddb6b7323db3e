use Rattle.std.proofs.Common.{◌≡◌, take}
use Rattle.vpg_why.specs.Explained.{choices}
use Rattle.vpg_why.specs.Reasons.{marked}
use Rattle.vpg_why.proofs.grounds.kept_by.Given as goal

abbrev pub invariant-loop-i : goal.invariant-loop-i
invariant-loop-i l = choices l.kept.items ≡ marked (take l.i l.marks) (take l.i (choices l.decisions))
