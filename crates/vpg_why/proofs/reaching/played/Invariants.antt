use Rattle.vpg_why.proofs.Plays.{ArePlayedBelow}
use Rattle.vpg_why.proofs.reaching.played.Given as goal

abbrev pub invariant-loop-v : goal.invariant-loop-v
invariant-loop-v l = ArePlayedBelow l.arena l.moves l.marks.items l.v l.played.items
