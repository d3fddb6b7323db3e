-- The vertices that an arena takes from a guarded game.
use Rattle.std.specs.Prelude.{◌≡◌, ℕ, ◌<◌, List, length, Bool, false, slice_index_or, All}
use Rattle.vpg_guards.specs.Formula.{Formula}
use Rattle.vpg_guards.specs.Known.{kleene}
use Rattle.vpg_guards.specs.declared.tri.Tri.{Tri}
use Rattle.vpg_game.specs.Game.{vertex_in}
use Rattle.vpg_game.specs.Guarded.{GuardedEdge, GuardedVertex, GuardedGame}
use Rattle.vpg_hope.specs.declared.selection.Selection.{Selection}
use Rattle.vpg_hope.specs.Kept.{owner_under, priority_under, kept_under}
use Rattle.vpg_hope.specs.Games.{Vertex, Game, isolated}

abbrev pub vertex_under : Selection → GuardedVertex Formula → Vertex
vertex_under selection vertex = record {
  owner = owner_under selection vertex.owner;
  priority = priority_under selection vertex.priority;
  successors = kept_under selection vertex.owner vertex.edges;
}

-- ---- from one arena to the next

-- each guard has the same value under both
abbrev pub AreStill : List Tri → List Tri → List (GuardedEdge Formula) → Type 0
AreStill before now edges = All (λ edge. kleene before edge.guard ≡ kleene now edge.guard) edges

-- a vertex without a mark is as the selection has it
abbrev pub IsHeldUnmarked : Selection → List Bool → GuardedGame Formula → Game → Type 0
IsHeldUnmarked selection marks graph arena =
    (v : ℕ) → v < length graph → slice_index_or marks v false ≡ false →
    slice_index_or arena v isolated ≡ vertex_under selection (vertex_in graph v)
