-- An arena as its vertices, in file order.
use Rattle.std.specs.Prelude.{ℕ, ◌<◌, ◌≤◌, ◌^◌, List, length, map, if◌then◌else◌, slice_index_or, slice_range}
use Rattle.std.specs.List.{All}
pub use Rattle.vpg_hope.specs.Games.{Vertex, IsClosed}
use Rattle.vpg_hope.specs.Games.{isolated}
use Rattle.vpg_hope.specs.declared.arena.Row.{Row}

-- the vertex at a place
abbrev pub vertex_at : List Vertex → ℕ → Vertex
vertex_at arena v = slice_index_or arena v isolated

-- ---- how an arena is kept

-- a row names one of two lists: the one that the arena may share with others, or its own
abbrev pub list_of : List ℕ → List ℕ → Row → List ℕ
list_of shared own row = if row.is_own then own else shared

abbrev pub row_vertex : List ℕ → List ℕ → Row → Vertex
row_vertex shared own row =
    record { owner = row.owner; priority = row.priority; successors = slice_range (list_of shared own row) row.start row.end }

abbrev pub row_vertices : List Row → List ℕ → List ℕ → List Vertex
row_vertices rows shared own = map (row_vertex shared own) rows

abbrev pub InLists : List ℕ → List ℕ → Row → Type 0
InLists shared own row = (row.start ≤ row.end) × (row.end ≤ length (list_of shared own row))

pub record AreRows (rows : List Row) (shared own : List ℕ) : Type 0 where
  pub count : length rows < 2 ^ 32
  pub few : length shared ≤ 1048576
  pub ranges : All (InLists shared own) rows
  pub closed : All (λ w. w < length rows) shared
  pub own_closed : All (λ w. w < length rows) own
