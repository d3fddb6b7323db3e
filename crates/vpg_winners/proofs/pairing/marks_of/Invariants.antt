use Rattle.std.proofs.Common.{◌≡◌, ◌++◌, drop, map}
use Rattle.vpg_winners.specs.Pairs.{mark_of}
use Rattle.vpg_winners.proofs.pairing.marks_of.Given as goal

-- the marks of the first parts
abbrev pub invariant-loop-part : goal.invariant-loop-part
invariant-loop-part l = l.marks.items ++ map mark_of (drop l.part-index l.parts) ≡ map mark_of l.parts
