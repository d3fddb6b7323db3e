use Rattle.std.proofs.Common.{◌≡◌, ◌++◌, take}
use Rattle.vpg_game.specs.Game.{vertex_ids}
use Rattle.vpg_game.specs.Levels.{top_of}
use Rattle.vpg_texts.specs.Sights.{lines_at}
use Rattle.vpg_texts.proofs.sights.lines_at.Given as goal

abbrev pub invariant-loop-v : goal.invariant-loop-v
invariant-loop-v l = l.out.items ≡ l.fn.out.items ++ lines_at (top_of l.games.hopeful_levels) (top_of l.games.dual_levels) (vertex_ids l.game.vertices) l.labels.names l.hopeful l.dual (take l.v-index l.vertices)
