use Rattle.std.proofs.lemmas.Grind.{common_steps}
use Rattle.std.proofs.Common.{arith}
use Rattle.vpg_desk.proofs.Opened.{opening_stands}
use Rattle.vpg_desk.proofs.opening.first_page.Goals as goal

pub returns-clause-opened : goal.returns-clause-opened
returns-clause-opened c = opening_stands c.args.game.now c.args.diagram.now _ c.requires c.in_ok-games.ensures.games

pub returns-clause-at_limit : goal.returns-clause-at_limit
returns-clause-at_limit c = grind (arith, common_steps)
