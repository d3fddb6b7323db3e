-- Settled tables that stay so when other features are known. This project's own.
use Rattle.std.specs.Prelude.{◌≡◌, ℕ, ◌<◌, ◌≤◌, List, Bool, false, length, slice_index, slice_index_or}
use Rattle.vpg_diagram.specs.DiagramText.{NamedDiagram}
use Rattle.vpg_diagram.specs.FeatureDiagram.{feature_count}
use Rattle.vpg_game.specs.Game.{NamedGame}
use Rattle.vpg_game.specs.Guarded.{GuardedGame}
use Rattle.vpg_game.specs.declared.levels.Level.{Level}
use Rattle.vpg_guards.specs.declared.tri.Tri.{Tri}
use Rattle.vpg_hope.specs.Games.{Game}
use Rattle.vpg_hope.specs.Arena.{vertex_at}
use Rattle.vpg_measure.specs.Games.{GamesView, AreGamesOf}
use Rattle.vpg_measure.specs.Lifts.{lift_of}
use Rattle.vpg_measure.specs.TwoGames.{IsProgressOf}
use Rattle.vpg_sides.specs.declared.which.Which.TheVariants.{Hopeful, Dual}

-- the games that some choices of features make of the game, over the features of a diagram
pub record AreGamesOver (game : NamedGame) (games : GamesView) : Type 0 where
  pub diagram : NamedDiagram
  pub features : game.features ≡ feature_count diagram.lines
  pub are : AreGamesOf game diagram games

-- progress tables of both hopeful games
pub record AreBothProgress {Guard : Type 0} (value : Guard → Tri) (game : GuardedGame Guard)
    (numbers dual_numbers : List ℕ) : Type 0 where
  pub hopeful : IsProgressOf value Hopeful game numbers
  pub dual : IsProgressOf value Dual game dual_numbers

-- no lift raises the table at a vertex without a mark
abbrev pub IsProgressUnmarked : List Bool → List Level → Game → List ℕ → Type 0
IsProgressUnmarked marks levels arena table =
    (v : ℕ) → v < length arena → slice_index_or marks v false ≡ false →
    lift_of levels table (vertex_at arena v) ≤ slice_index table v
