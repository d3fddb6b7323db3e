use Rattle.std.proofs.Common.{◌≡◌, ◌≤◌, take}
use Rattle.vpg_family.specs.Limits.{signs_in}
use Rattle.vpg_family.proofs.limits.surplus.Given as goal

abbrev pub invariant-loop-at : goal.invariant-loop-at
invariant-loop-at l = (l.signs ≡ signs_in (take l.at l.text)) × (l.signs ≤ 8388608)
