use Rattle.std.proofs.lemmas.Grind.{common_steps}
use Rattle.std.proofs.Common.{arith}
use Rattle.vpg_looks.proofs.Using.{used_inside}
use Rattle.vpg_looks.proofs.uses.list.Goals as goal

pub returns-clause-inside : goal.returns-clause-inside
returns-clause-inside c =
    used_inside c.args.order.now.game c.game.ensures.order.game c.args.feature c.loop-v.v c.loop-v.listed.items
    (grind (arith, common_steps)) c.loop-v.invariant
