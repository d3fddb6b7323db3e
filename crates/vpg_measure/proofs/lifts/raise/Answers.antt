use Rattle.std.proofs.Common.{arith}
use Rattle.std.proofs.lemmas.Grind.{common_steps}
use Rattle.vpg_hope.specs.Arena.{vertex_at}
use Rattle.vpg_measure.proofs.Progs.{lift_at_most}
use Rattle.vpg_measure.proofs.Rounds.{raised-same}
use Rattle.vpg_measure.proofs.lifts.raise.Goals as goal

pub returns-then-top-get-clause-raised : goal.returns-then-top-get-clause-raised
returns-then-top-get-clause-raised c =
    raised-same c.args.shape.now c.args.arena.now c.args.table.now c.args.v
    (omega (
      arith,
      c.top.ensures.top,
      c.get.ensures,
      c.if-top-get.true,
      lift_at_most c.args.shape.now c.args.table.now (vertex_at c.args.arena.now c.args.v) c.requires.table.within,
    ))

pub returns-then-get-lifted-clause-rose : goal.returns-then-get-lifted-clause-rose
returns-then-get-lifted-clause-rose c = grind (arith, common_steps)

pub returns-else-get-lifted-clause-raised : goal.returns-else-get-lifted-clause-raised
returns-else-get-lifted-clause-raised c = grind (arith, common_steps)
