-- A table that is raised, and the properties that raising keeps. This project's own.
use Rattle.std.specs.Prelude.{◌≡◌, ℕ, List}
use Rattle.vpg_game.specs.declared.levels.Level.{Level}
use Rattle.vpg_hope.specs.Arena.{Vertex as Node}
use Rattle.vpg_measure.specs.Lifts.{IsTableOf, IsProgressTable, IsBelowTable, after_rounds}

-- a table of an arena, with the levels of its measures, and those of the dual's
pub record RaisingView : Type 0 where
  pub levels : List Level
  pub dual_levels : List Level
  pub arena : List Node
  pub table : List ℕ

-- no lift raises the table
abbrev pub IsSettled : RaisingView → Type 0
IsSettled raising = IsProgressTable raising.levels raising.arena raising.table

-- the table after a round of lifts
abbrev pub after_round : RaisingView → List ℕ
after_round raising = after_rounds raising.levels raising.arena 1 raising.table

-- A table of the same arena, on or above the old one, also after a round of lifts of either. It is below every progress
-- table that the old one is below.
pub record IsRaisedFrom (old new : RaisingView) : Type 0 where
  pub same : new ≡ record old { table = new.table }
  pub above : IsBelowTable old.table new.table
  pub round : IsBelowTable (after_round old) (after_round new)
  pub below : (other : List ℕ) → IsTableOf old.levels old.arena other → IsProgressTable old.levels old.arena other →
      IsBelowTable old.table other → IsBelowTable new.table other
