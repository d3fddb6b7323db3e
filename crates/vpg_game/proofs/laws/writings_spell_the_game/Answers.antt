use Rattle.vpg_game.proofs.Written as written
use Rattle.vpg_game.proofs.laws.writings_spell_the_game.Goals as goal

pub returns : goal.returns
returns c = written.writings_spell_the_game
