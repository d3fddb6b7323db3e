use Rattle.std.proofs.Common.{◌≡◌, take}
use Rattle.vpg_game.specs.Game.{edges_in}
use Rattle.vpg_family.proofs.counts.edges.Given as goal

abbrev pub invariant-loop-v : goal.invariant-loop-v
invariant-loop-v l = l.edges ≡ edges_in (take l.v l.game.vertices)
