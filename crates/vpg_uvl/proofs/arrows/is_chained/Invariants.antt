use Rattle.std.proofs.Common.{◌≡◌, drop}
use Rattle.vpg_uvl.specs.Arrows.{is_chained}
use Rattle.vpg_uvl.proofs.arrows.is_chained.Given as goal

abbrev pub invariant-loop-at : goal.invariant-loop-at
invariant-loop-at l = is_chained l.before (drop l.at l.text) ≡ is_chained 0 l.text
