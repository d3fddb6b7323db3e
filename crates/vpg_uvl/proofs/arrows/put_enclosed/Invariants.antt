use Rattle.std.proofs.Common.{◌≡◌, ◌++◌, drop}
use Rattle.vpg_uvl.specs.Arrows.{enclosed_from}
use Rattle.vpg_uvl.proofs.arrows.put_enclosed.Given as goal

abbrev pub invariant-loop-at : goal.invariant-loop-at
invariant-loop-at l = l.initial.out.items ++ enclosed_from 0 0 l.text ≡ l.out.items ++ enclosed_from l.earlier l.before (drop l.at l.text)
