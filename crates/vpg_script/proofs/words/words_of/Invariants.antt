use Rattle.std.proofs.Common.{length}
use Rattle.vpg_script.specs.Script.{words}
use Rattle.vpg_script.proofs.OneByOne.{AreLeft}
use Rattle.vpg_script.proofs.words.words_of.Given as goal

abbrev pub invariant-loop-word : goal.invariant-loop-word
invariant-loop-word l = AreLeft l.words.items l.rest (words l.line)

abbrev pub decreases-loop-word : goal.decreases-loop-word
decreases-loop-word l = length l.rest
