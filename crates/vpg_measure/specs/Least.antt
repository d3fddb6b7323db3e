-- Tables of numbers below every progress table, and the least one.
use Rattle.std.specs.Prelude.{ℕ, ◌≤◌, List, slice_index}
use Rattle.vpg_game.specs.declared.levels.Level.{Level}
use Rattle.vpg_hope.specs.Arena.{Vertex as Node}
use Rattle.vpg_measure.specs.Lifts.{IsTableOf, IsProgressTable, IsBelowTable}

-- below every progress table of numbers
abbrev pub IsBelowProgressTables : List Level → List Node → List ℕ → Type 0
IsBelowProgressTables levels arena table =
    (other : List ℕ) → IsTableOf levels arena other → IsProgressTable levels arena other → IsBelowTable table other

-- at most the value of every progress table at the vertex
abbrev pub IsValueBelow : List Level → List Node → ℕ → ℕ → Type 0
IsValueBelow levels arena v n =
    (other : List ℕ) → IsTableOf levels arena other → IsProgressTable levels arena other → n ≤ slice_index other v

-- the progress table below every progress table
pub record IsLeastTable (levels : List Level) (arena : List Node) (table : List ℕ) : Type 0 where
  pub is_table : IsTableOf levels arena table
  pub settled : IsProgressTable levels arena table
  pub below : IsBelowProgressTables levels arena table
