use Rattle.std.proofs.Common.{◌≡◌, ◌++◌}
use Rattle.vpg_game.specs.Game.{vertex_ids}
use Rattle.vpg_texts.specs.Text.{plan_lines}
use Rattle.vpg_texts.proofs.text.plan.Given as goal

abbrev pub invariant-loop-v : goal.invariant-loop-v
invariant-loop-v l = l.out.items ≡ l.fn.out.items ++ plan_lines (vertex_ids l.game.vertices) l.labels.names l.chosen l.v
