use Rattle.std.proofs.Common.{◌≡◌, ◌++◌, length}
use Rattle.vpg_journal.specs.Frames.{AreShort, frames, texts}
use Rattle.vpg_journal.proofs.frames.found_in.Given as goal

abbrev pub invariant-loop-text : goal.invariant-loop-text
invariant-loop-text l = record { whole : l.bytes ≡ frames (texts l.records.items) ++ l.rest; short : AreShort (texts l.records.items) }

abbrev pub decreases-loop-text : goal.decreases-loop-text
decreases-loop-text l = length l.rest
