use Rattle.std.proofs.Common.{arith, subst}
use Rattle.std.proofs.lemmas.Grind.{common_steps}
use Rattle.vpg_game.specs.Game.{IsGame}
use Rattle.vpg_game.proofs.Written.{writings_spell_the_game}
use Rattle.vpg_game.proofs.game.GuardedGame.write.Goals as goal

pub returns-clause-again : goal.returns-clause-again
returns-clause-again c none = writings_spell_the_game c.args.names.now c.args.self.now c.len-count.ensures.names c.requires (subst IsGame c.self.view_is c.self.invariant.0) none

pub returns-clause-ok : goal.returns-clause-ok
returns-clause-ok c = grind (arith, common_steps)

pub put_vertices-requires : goal.put_vertices-requires
put_vertices-requires c = grind (arith, common_steps)
