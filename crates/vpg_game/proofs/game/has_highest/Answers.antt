use Rattle.std.proofs.Common.{arith}
use Rattle.vpg_game.proofs.DualGames.{none_highest}
use Rattle.vpg_game.proofs.game.has_highest.Goals as goal

pub returns : goal.returns
returns c = ((λ never. absurd cc), (λ has. absurd (none_highest c.args.vertices.now c.loop-vertex.vertex-index (omega (arith, c.loop-vertex-test.false)) c.loop-vertex.invariant has)))
