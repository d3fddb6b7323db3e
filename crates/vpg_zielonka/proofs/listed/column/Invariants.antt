use Rattle.std.proofs.Common.{◌≡◌, ◌≤◌, Bool, length, map, drop}
use Rattle.std.specs.Global.{Vec}
use Rattle.vpg_zielonka.specs.Words.{word_of}
use Rattle.vpg_zielonka.proofs.listed.column.Given as goal

abbrev pub invariant-loop-i : goal.invariant-loop-i
invariant-loop-i l =
    (l.i ≤ length l.products) × (l.word ≡ word_of (map (λ (p : Vec Bool). p.items) (drop l.i l.products)) l.feature)

abbrev pub decreases-loop-i : goal.decreases-loop-i
decreases-loop-i l = l.i
