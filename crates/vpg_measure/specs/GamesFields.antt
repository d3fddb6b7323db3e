-- The games of a page by their fields.
use Rattle.std.specs.Prelude.{◌≡◌, List}
use Rattle.vpg_guards.specs.declared.tri.Tri.{Tri}
use Rattle.vpg_guards.specs.Known.{kleene}
use Rattle.vpg_game.specs.Game.{NamedGame, graph_of}
use Rattle.vpg_measure.specs.declared.games.SideGame.{SideGame}
use Rattle.vpg_measure.specs.declared.games.PageGames.TheInside.{Inside}
use Rattle.vpg_sides.specs.declared.which.Which.{Which}
use Rattle.vpg_measure.specs.Games.{GamesView}
use Rattle.vpg_measure.specs.TwoGames.{levels_for, arena_for}

-- the shape and the kept edges of one of the two games
pub record IsSideGame (known : List Tri) (which : Which) (game : NamedGame) (side : SideGame) : Type 0 where
  pub shape : side.shape ≡ levels_for which (graph_of game)
  pub arena : side.arena ≡ arena_for (kleene known) which (graph_of game)

abbrev pub games_of : Inside → GamesView
games_of fields = record {
  known = fields.known;
  hopeful_levels = fields.hopeful.shape;
  hopeful_arena = fields.hopeful.arena;
  dual_levels = fields.dual.shape;
  dual_arena = fields.dual.arena;
}
