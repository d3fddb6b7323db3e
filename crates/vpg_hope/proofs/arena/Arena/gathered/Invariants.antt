use Rattle.std.proofs.Common.{◌≡◌, ◌+◌, ◌<◌, ◌≤◌, [], length, map, take, drop, All}
use Rattle.vpg_game.specs.Game.{graph_of, edges_in}
use Rattle.vpg_hope.specs.Arena.{row_vertices, InLists}
use Rattle.vpg_hope.specs.Selection.{vertex_under}
use Rattle.vpg_hope.proofs.arena.Arena.gathered.Given as goal

abbrev pub invariant-loop-v : goal.invariant-loop-v
invariant-loop-v l = record {
  rows : length l.rows.items ≡ l.v;
  made : row_vertices l.rows.items l.successors.items [] ≡ map (vertex_under l.selection) (take l.v (graph_of l.game));
  ranges : All (InLists l.successors.items []) l.rows.items;
  closed : All (λ w. w < length (graph_of l.game)) l.successors.items;
  few : length l.successors.items + edges_in (drop l.v l.game.vertices) ≤ edges_in l.game.vertices;
}
