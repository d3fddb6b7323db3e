-- What is counted of a page, and asserted of it.
use Rattle.std.proofs.Common.{◌≡◌, ℕ, Bool, List, [], ◌++◌, length, refl, ap, ◌∙◌, append_assoc}
use Rattle.std.specs.Prelude.{map}
use Rattle.std.specs.Bool.{Decides}
use Rattle.vpg_diagram.specs.DiagramText.{NamedDiagram}
use Rattle.vpg_game.specs.Game.{NamedGame, graph_of}
use Rattle.vpg_game.specs.Levels.{top_of}
use Rattle.vpg_guards.specs.Known.{AreAllKnown}
use Rattle.vpg_measure.specs.Games.{GamesView, ArePageGames}
use Rattle.vpg_measure.specs.TwoGames.{top_for}
use Rattle.vpg_trail.specs.Page.{Hopeful, Dual, Decision, literal_of}
use Rattle.vpg_script.specs.Answer.{Answer}
use Rattle.vpg_texts.specs.Scene.{AreProgressTables, scene_of}
use Rattle.vpg_texts.specs.Sights.{IsAsserted}
use Rattle.vpg_texts.proofs.Shown.{tells}

-- three parts, written one behind another
pub three_parts : (before one two three x y z : List ℕ) → one ≡ before ++ x → two ≡ one ++ y → three ≡ two ++ z → three ≡ before ++ (x ++ y ++ z)
three_parts before one two three x y z first second third =
    third ∙ ap (λ (bytes : List ℕ). bytes ++ z) (second ∙ ap (λ (bytes : List ℕ). bytes ++ y) first ∙ append_assoc before x y) ∙ append_assoc before (x ++ y) z

-- an answer that is made of whether each feature is known and the page is settled, by the tops of the games
pub asserts : (game : NamedGame) (diagram : NamedDiagram) (decisions : List Decision) (games : GamesView) → ArePageGames game diagram (map literal_of decisions) games →
    (hopeful dual : List ℕ) (answer_by : ℕ → ℕ → Bool → Bool → Answer) (full settled : Bool) →
    Decides full (AreAllKnown (length games.known) games.known) → Decides settled (AreProgressTables games.known (graph_of game) hopeful dual) →
    IsAsserted (scene_of [] game diagram) (answer_by (top_for Hopeful (graph_of game)) (top_for Dual (graph_of game))) decisions hopeful dual
    (answer_by (top_of games.hopeful_levels) (top_of games.dual_levels) full settled)
asserts game diagram decisions games are hopeful dual answer_by full settled full_is settled_is =
    (games.known, (are.known, tells game diagram (map literal_of decisions) games are answer_by full settled hopeful dual _ full_is settled_is refl))
