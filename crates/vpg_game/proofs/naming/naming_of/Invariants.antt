use Rattle.vpg_game.proofs.NamingSteps.{IsNamingSoFar}
use Rattle.vpg_game.proofs.naming.naming_of.Given as goal

-- the vertices so far are noted
abbrev pub invariant-loop-v : goal.invariant-loop-v
invariant-loop-v l = IsNamingSoFar l.features l.vertices l.v l.naming
