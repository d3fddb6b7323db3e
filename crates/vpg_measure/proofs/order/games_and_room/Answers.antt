use Rattle.std.proofs.Common.{arith}
use Rattle.std.proofs.lemmas.Grind.{common_steps}
use Rattle.vpg_measure.proofs.order.games_and_room.Goals as goal

pub returns-clause-games : goal.returns-clause-games
returns-clause-games c = grind (arith, common_steps)

pub returns-clause-at_limit : goal.returns-clause-at_limit
returns-clause-at_limit c = grind (arith, common_steps)

pub returns-clause-conflict : goal.returns-clause-conflict
returns-clause-conflict c = grind (arith, common_steps)

pub returns-in_err-under-clause-conflict : goal.returns-in_err-under-clause-conflict
returns-in_err-under-clause-conflict c = grind (arith, common_steps)
