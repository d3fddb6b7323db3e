use Rattle.std.proofs.Common.{◌≡◌, ◌==◌, false, take}
use Rattle.std.specs.List.{list_any}
use Rattle.vpg_desk.proofs.swing.has_serial.Given as goal

abbrev pub invariant-loop-cut : goal.invariant-loop-cut
invariant-loop-cut l = list_any (λ c. c.serial == l.serial) (take l.cut-index l.cuts) ≡ false
