use Rattle.std.proofs.Common.{arith}
use Rattle.std.proofs.lemmas.Grind.{common_steps}
use Rattle.vpg_measure.proofs.games.known_for.Goals as goal

pub returns-then-is_at_limit-clause-conflict : goal.returns-then-is_at_limit-clause-conflict
returns-then-is_at_limit-clause-conflict c = grind (arith, common_steps)

pub returns-clause-conflict : goal.returns-clause-conflict
returns-clause-conflict c = grind (arith, common_steps)

pub returns-clause-at_limit : goal.returns-clause-at_limit
returns-clause-at_limit c = grind (arith, common_steps)

pub returns-then-is_at_limit-clause-at_limit : goal.returns-then-is_at_limit-clause-at_limit
returns-then-is_at_limit-clause-at_limit c = grind (arith, common_steps)
