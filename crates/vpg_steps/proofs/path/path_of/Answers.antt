use Rattle.std.proofs.Common.{refl}
use Rattle.vpg_steps.proofs.Paths.{trail_is}
use Rattle.vpg_steps.proofs.path.path_of.Goals as goal

pub returns : goal.returns
returns c =
    trail_is c.in_ok-steps.steps.items _ c.in_ok-loops.loops.items _ c.in_ok-stands.stands.items _ c.in_ok-steps.ensures c.in_ok-loops.ensures c.in_ok-stands.ensures
