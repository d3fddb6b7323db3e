-- The verdicts by the games of a page.
use Rattle.std.proofs.Common.{◌≡◌, ℕ, List, length, sym}
use Rattle.std.proofs.lemmas.List.{length-map}
use Rattle.vpg_game.specs.Game.{NamedGame, unnamed, graph_of}
use Rattle.vpg_game.specs.Levels.{top_of}
use Rattle.vpg_measure.specs.Games.{GamesView, games_levels}
use Rattle.vpg_measure.specs.TwoGames.{levels_for}
use Rattle.vpg_sides.specs.declared.which.Which.{Which}
use Rattle.vpg_sides.specs.declared.which.Which.TheVariants.{Hopeful, Dual}
use Rattle.vpg_texts.specs.Changed.{verdicts_below, verdicts_by}

pub verdicts_are : (game : NamedGame) (games : GamesView) → ((which : Which) → games_levels which games ≡ levels_for which (graph_of game)) → (hopeful dual : List ℕ) →
    verdicts_below (top_of games.hopeful_levels) (top_of games.dual_levels) hopeful dual (length game.vertices) ≡ verdicts_by (graph_of game) hopeful dual
verdicts_are game games levels hopeful dual =
    λ i. verdicts_below (top_of (levels Hopeful i)) (top_of (levels Dual i)) hopeful dual (sym (length-map game.vertices unnamed) i)
