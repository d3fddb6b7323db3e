use Rattle.std.proofs.Common.{◌<◌, length, arith}
use Rattle.vpg_guess.proofs.Kept.{kept_lifted}
use Rattle.vpg_guess.proofs.raising.Raising.lift_vertex.Goals as goal

pub returns-then-v-vertices : goal.returns-then-v-vertices
returns-then-v-vertices c =
    let inside : c.args.v < length c.self.inside.arena.now = omega (arith, c.if-v-vertices.true, c.vertices.ensures) in
    rw (c.raise.ensures.raised, ← c.self.view_is) (kept_lifted _ c.args.v c.self.invariant inside)
