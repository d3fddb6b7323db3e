use Rattle.std.proofs.Common.{◌≡◌, ◌≤◌, ◌++◌}
use Rattle.vpg_game.specs.Game.{vertex_ids}
use Rattle.vpg_texts.specs.Changed.{change_count, change_lines}
use Rattle.vpg_texts.proofs.changed.changes.Given as goal

abbrev pub invariant-loop-v : goal.invariant-loop-v
invariant-loop-v l = record {
  count : l.changed ≡ change_count l.seen l.present l.v;
  few : l.changed ≤ l.v;
  lines : l.out.items ≡ l.fn.out.items ++ change_lines (vertex_ids l.game.vertices) l.labels.names l.seen l.present l.v;
}
