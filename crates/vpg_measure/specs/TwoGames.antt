-- The two hopeful games of a guarded game, and their tables.
use Rattle.std.specs.Prelude.{ℕ, List}
use Rattle.vpg_guards.specs.declared.tri.Tri.{Tri}
use Rattle.vpg_game.specs.declared.levels.Level.{Level}
use Rattle.vpg_game.specs.Levels.{levels_of, top_of}
use Rattle.vpg_game.specs.Guarded.{GuardedGame, guarded_priorities, dual}
use Rattle.vpg_hope.specs.Games.{Game}
use Rattle.vpg_hope.specs.Hope.{hopeful_game}
use Rattle.vpg_sides.specs.declared.which.Which.{Which}
use Rattle.vpg_sides.specs.declared.which.Which.TheVariants.{Hopeful, Dual}
use Rattle.vpg_measure.specs.Lifts.{IsTableOf, IsProgressTable}
use Rattle.vpg_measure.specs.Least.{IsBelowProgressTables}

-- the guarded game with the hopeful game that the table is of
abbrev pub game_for : {Guard : Type 0} → Which → GuardedGame Guard → GuardedGame Guard
game_for Hopeful game = game
game_for Dual game = dual game

-- the levels of the game, or of its dual
abbrev pub levels_for : {Guard : Type 0} → Which → GuardedGame Guard → List Level
levels_for which game = levels_of (guarded_priorities (game_for which game))

-- the number of the top measure of the game, or of its dual
abbrev pub top_for : {Guard : Type 0} → Which → GuardedGame Guard → ℕ
top_for which game = top_of (levels_for which game)

-- the hopeful game under these values of guards, or that of the dual
abbrev pub arena_for : {Guard : Type 0} → (Guard → Tri) → Which → GuardedGame Guard → Game
arena_for value which game = hopeful_game value (game_for which game)

pub record IsProgressOf {Guard : Type 0} (value : Guard → Tri) (which : Which) (game : GuardedGame Guard)
    (numbers : List ℕ) : Type 0 where
  pub is_table : IsTableOf (levels_for which game) (arena_for value which game) numbers
  pub settled : IsProgressTable (levels_for which game) (arena_for value which game) numbers

-- a table below every progress table of its game, as an order, a harvest and the words of a board hold
pub record IsTableBelow {Guard : Type 0} (value : Guard → Tri) (which : Which) (game : GuardedGame Guard)
    (numbers : List ℕ) : Type 0 where
  pub is_table : IsTableOf (levels_for which game) (arena_for value which game) numbers
  pub below : IsBelowProgressTables (levels_for which game) (arena_for value which game) numbers
