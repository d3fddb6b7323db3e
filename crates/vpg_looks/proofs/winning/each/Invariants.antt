use Rattle.std.proofs.Common.{◌≡◌, ◌++◌}
use Rattle.vpg_game.specs.Game.{vertex_ids}
use Rattle.vpg_looks.specs.Texts.{move_lines}
use Rattle.vpg_looks.proofs.winning.each.Given as goal

abbrev pub invariant-loop-v : goal.invariant-loop-v
invariant-loop-v l = l.out.items ≡ l.fn.out.items ++ move_lines l.word (vertex_ids l.order.game.vertices) l.labels.names l.moves l.v
