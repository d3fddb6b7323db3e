use Rattle.std.proofs.Common.{◌≡◌}
use Rattle.vpg_game.specs.Levels.{top_of}
use Rattle.vpg_texts.specs.Changed.{verdicts_below}
use Rattle.vpg_texts.proofs.changed.verdicts.Given as goal

abbrev pub invariant-loop-v : goal.invariant-loop-v
invariant-loop-v l = l.verdicts.items ≡ verdicts_below (top_of l.games.hopeful_levels) (top_of l.games.dual_levels) l.hopeful l.dual l.v
