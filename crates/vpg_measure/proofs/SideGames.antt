-- The games of a page from the games of its two tables.
use Rattle.std.proofs.Common.{◌≡◌, List}
use Rattle.vpg_guards.specs.declared.tri.Tri.{Tri}
use Rattle.vpg_guards.specs.Known.{kleene}
use Rattle.vpg_diagram.specs.DiagramText.{NamedDiagram, IsNamedDiagram}
use Rattle.vpg_diagram.specs.declared.clause.Literal.{Literal}
use Rattle.vpg_game.specs.Game.{NamedGame, IsGame, IsAtLimit, graph_of}
use Rattle.vpg_partial.specs.TableLaws.{IsKnownTable}
use Rattle.vpg_measure.specs.declared.games.SideGame.{SideGame}
use Rattle.vpg_sides.specs.declared.which.Which.{Which}
use Rattle.vpg_sides.specs.declared.which.Which.TheVariants.{Hopeful, Dual}
use Rattle.vpg_measure.specs.Games.{GamesView, ArePageGames, games_levels, games_arena}
use Rattle.vpg_measure.specs.GamesFields.{IsSideGame}
use Rattle.vpg_measure.specs.TwoGames.{levels_for, arena_for}

module _ (game : NamedGame) (diagram : NamedDiagram) (choices : List Literal) (known : List Tri) (hopeful dual : SideGame) where
  abbrev both : GamesView
  both = record { known = known; hopeful_levels = hopeful.shape; hopeful_arena = hopeful.arena; dual_levels = dual.shape; dual_arena = dual.arena }

  pub page_games : IsGame game → (IsAtLimit game → ⊥) → IsNamedDiagram diagram → IsKnownTable diagram.lines choices known → IsSideGame known Hopeful game hopeful → IsSideGame known Dual game dual →
      ArePageGames game diagram choices
      (record { known = known; hopeful_levels = hopeful.shape; hopeful_arena = hopeful.arena; dual_levels = dual.shape; dual_arena = dual.arena })
  page_games is_game other is_diagram is_known first second = record { is_game = is_game; not_at_limit = other; is_diagram = is_diagram; known = is_known; levels = levels; arena = arena }
    where
      levels : (which : Which) → games_levels which both ≡ levels_for which (graph_of game)
      levels Hopeful = first.shape
      levels Dual = second.shape

      arena : (which : Which) → games_arena which both ≡ arena_for (kleene known) which (graph_of game)
      arena Hopeful = first.arena
      arena Dual = second.arena
