-- The games that the decisions of a page make of its game. This project's own.
use Rattle.std.specs.Prelude.{◌≡◌, List}
use Rattle.vpg_guards.specs.declared.tri.Tri.{Tri}
use Rattle.vpg_guards.specs.Known.{kleene}
use Rattle.vpg_diagram.specs.DiagramText.{NamedDiagram, IsNamedDiagram}
use Rattle.vpg_diagram.specs.declared.clause.Literal.{Literal}
use Rattle.vpg_game.specs.Game.{NamedGame, IsGame, IsAtLimit, graph_of}
use Rattle.vpg_game.specs.declared.levels.Level.{Level}
use Rattle.vpg_hope.specs.Games.{Game}
use Rattle.vpg_partial.specs.TableLaws.{IsKnownTable}
use Rattle.vpg_sides.specs.declared.which.Which.{Which}
use Rattle.vpg_sides.specs.declared.which.Which.TheVariants.{Hopeful, Dual}
use Rattle.vpg_measure.specs.TwoGames.{levels_for, arena_for}

-- what is known of each feature, and the levels and the kept edges of both games
pub record GamesView : Type 0 where
  pub known : List Tri
  pub hopeful_levels : List Level
  pub hopeful_arena : Game
  pub dual_levels : List Level
  pub dual_arena : Game

-- the levels of either game
abbrev pub games_levels : Which → GamesView → List Level
games_levels Hopeful games = games.hopeful_levels
games_levels Dual games = games.dual_levels

-- the kept edges of either game
abbrev pub games_arena : Which → GamesView → Game
games_arena Hopeful games = games.hopeful_arena
games_arena Dual games = games.dual_arena

-- they are the games that these choices of features make of the game, which has a dual
pub record ArePageGames (game : NamedGame) (diagram : NamedDiagram) (choices : List Literal)
    (games : GamesView) : Type 0 where
  pub is_game : IsGame game
  pub not_at_limit : ¬ IsAtLimit game
  pub is_diagram : IsNamedDiagram diagram
  pub known : IsKnownTable diagram.lines choices games.known
  pub levels : (which : Which) → games_levels which games ≡ levels_for which (graph_of game)
  pub arena : (which : Which) → games_arena which games ≡ arena_for (kleene games.known) which (graph_of game)

-- they are the games that some choices of features make of the game
abbrev pub AreGamesOf : NamedGame → NamedDiagram → GamesView → Type 0
AreGamesOf game diagram games = (choices : List Literal) × ArePageGames game diagram choices games
