use Rattle.std.proofs.Common.{◌≡◌, take}
use Rattle.vpg_journal.specs.Frames.{AreShort, frames, texts}
use Rattle.vpg_journal.proofs.frames.batch_of.Given as goal

abbrev pub invariant-loop-text : goal.invariant-loop-text
invariant-loop-text l = record { bytes : l.bytes.items ≡ frames (texts (take l.text-index l.records)); short : AreShort (texts (take l.text-index l.records)) }
