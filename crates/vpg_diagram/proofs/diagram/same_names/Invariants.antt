use Rattle.std.proofs.Common.{◌≡◌, length, take}
use Rattle.vpg_diagram.proofs.diagram.same_names.Given as goal

abbrev pub invariant-loop-f : goal.invariant-loop-f
invariant-loop-f l = (length l.names ≡ length l.others) × (take l.f l.names ≡ take l.f l.others)
