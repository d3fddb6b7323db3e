use Rattle.std.proofs.Common.{arith}
use Rattle.vpg_measure.proofs.Rounds.{progress_at}
use Rattle.vpg_desk.proofs.looking.rises_in.Goals as goal

pub returns-then-get-lift : goal.returns-then-get-lift
returns-then-get-lift c t h =
    let at = progress_at c.args.shape.now c.args.arena.now c.args.table.now c.requires h c.args.v (omega (arith, c.vertices.ensures)) in
    absurd (omega (arith, at, c.lift.ensures.lift, c.get.ensures))
