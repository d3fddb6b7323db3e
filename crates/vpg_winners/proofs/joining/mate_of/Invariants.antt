use Rattle.vpg_winners.specs.Winners.{view_of}
use Rattle.vpg_winners.proofs.Mates.{HasNoneBefore}
use Rattle.vpg_winners.proofs.joining.mate_of.Given as goal

abbrev pub invariant-loop-place : goal.invariant-loop-place
invariant-loop-place l = HasNoneBefore l.parts (view_of l.part) l.place
