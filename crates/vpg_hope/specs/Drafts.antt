-- An arena in the making: rows, the list that it shares, and its own. This project's own.
use Rattle.std.specs.Prelude.{◌≡◌, ℕ, ◌≤◌, List, length, map, Bool}
use Rattle.vpg_guards.specs.Formula.{Formula}
use Rattle.vpg_game.specs.Guarded.{GuardedGame}
use Rattle.vpg_hope.specs.Arena.{row_vertices, AreRows}
use Rattle.vpg_hope.specs.Selection.{vertex_under, IsHeldUnmarked}
use Rattle.vpg_hope.specs.declared.arena.Row.{Row}
use Rattle.vpg_hope.specs.declared.selection.Selection.{Selection}

-- its vertices without a mark are as the selection has them, and its own list is short
pub record IsHeldDraft (selection : Selection) (marks : List Bool) (graph : GuardedGame Formula)
    (rows : List Row) (shared own : List ℕ) : Type 0 where
  pub lists : AreRows rows shared own
  pub count : length rows ≡ length graph
  pub few : length own ≤ 262144
  pub held : IsHeldUnmarked selection marks graph (row_vertices rows shared own)

-- each vertex is as the selection has it
pub record IsSelectedDraft (selection : Selection) (graph : GuardedGame Formula)
    (rows : List Row) (shared own : List ℕ) : Type 0 where
  pub lists : AreRows rows shared own
  pub vertices : row_vertices rows shared own ≡ map (vertex_under selection) graph
