use Rattle.std.proofs.Common.{◌≡◌, ◌++◌}
use Rattle.vpg_game.specs.Game.{vertex_ids}
use Rattle.vpg_game.specs.Levels.{top_of}
use Rattle.vpg_texts.specs.Text.{vertex_lines}
use Rattle.vpg_texts.proofs.text.vertices.Given as goal

abbrev pub invariant-loop-v : goal.invariant-loop-v
invariant-loop-v l = l.out.items ≡ l.fn.out.items ++ vertex_lines (top_of l.games.hopeful_levels) (top_of l.games.dual_levels) (vertex_ids l.game.vertices) l.labels.names l.hopeful l.dual l.v
