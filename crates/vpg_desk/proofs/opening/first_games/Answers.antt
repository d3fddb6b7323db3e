use Rattle.std.proofs.lemmas.Grind.{common_steps}
use Rattle.std.proofs.Common.{arith}
use Rattle.vpg_desk.proofs.opening.first_games.Goals as goal

pub returns-in_ok-share-in-Ok-clause-games : goal.returns-in_ok-share-in-Ok-clause-games
returns-in_ok-share-in-Ok-clause-games c = grind (arith, common_steps)

pub returns-in_ok-share-in-Ok-clause-at_limit : goal.returns-in_ok-share-in-Ok-clause-at_limit
returns-in_ok-share-in-Ok-clause-at_limit c = grind (arith, common_steps)
