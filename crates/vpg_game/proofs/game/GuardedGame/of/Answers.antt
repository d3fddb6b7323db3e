use Rattle.vpg_game.proofs.Answered.{made_only_memory}
use Rattle.vpg_game.proofs.game.GuardedGame.of.Goals as goal

pub returns-clause-only : goal.returns-clause-only
returns-clause-only c = made_only_memory c.args.entries.items c.make.result c.make.ensures.err
