use Rattle.std.proofs.Common.{◌≡◌, length}
use Rattle.vpg_family.proofs.explaining.set_of.Given as goal

abbrev pub invariant-loop-feature : goal.invariant-loop-feature
invariant-loop-feature l = length l.set.items ≡ l.count
