use Rattle.std.proofs.Common.{take, Contains}
use Rattle.vpg_system_draw.specs.Searched.{AreNoted}
use Rattle.vpg_system_draw.proofs.reached.note_each.Given as goal

-- the targets so far
abbrev pub invariant-loop-target : goal.invariant-loop-target
invariant-loop-target l =
    AreNoted (λ s. Contains (take l.target-index l.targets) s) l.initial.marks.items l.initial.waiting.items l.marks.items l.waiting.items
