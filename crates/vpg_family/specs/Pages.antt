-- The picture of a family on a page. This project's own.
use Rattle.std.specs.Prelude.{◌≡◌, ℕ, List}
use Rattle.vpg_guards.specs.declared.tri.Tri.{Tri}
use Rattle.vpg_diagram.specs.declared.clause.Literal.{Literal}
use Rattle.vpg_diagram.specs.DiagramText.{NamedDiagram}
use Rattle.vpg_game.specs.Game.{NamedGame}
use Rattle.vpg_game.specs.SpelledNames.{Told}
use Rattle.vpg_partial.specs.TableLaws.{IsKnownTable}
use Rattle.vpg_sides.specs.declared.verdict.Verdict.{Verdict}
use Rattle.vpg_draw.specs.GameDrawing.{game_drawing}
use Rattle.vpg_draw.specs.FeatureDrawing.{feature_drawing}
use Rattle.vpg_family.specs.Pictures.{TellsNames}
use Rattle.vpg_family.specs.declared.drawing.Subject.{Subject}
use Rattle.vpg_family.specs.declared.drawing.Subject.TheVariants.{Game, Features}

-- the parts of a page that are drawn: its decisions, the features that they make known, and the verdicts of the
-- vertices
pub record Sight : Type 0 where
  pub choices : List Literal
  pub known : List Tri
  pub verdicts : List Verdict

abbrev pub sight_of : List Tri → List Literal → List Verdict → Sight
sight_of known choices verdicts = record { choices = choices; known = known; verdicts = verdicts }

-- the game on a page, with these names of its vertices
abbrev pub sight_drawing : NamedDiagram → NamedGame → Sight → List (List ℕ) → List ℕ
sight_drawing diagram game sight names = game_drawing diagram.names sight.known sight.choices names sight.verdicts game

-- the game on a page is drawn with the names in its text
pub record IsGameSeen (diagram : NamedDiagram) (game : NamedGame) (sight : Sight) (text picture : List ℕ) : Type 0 where
  pub names : Told
  pub names_are : TellsNames text names
  pub picture_is : picture ≡ sight_drawing diagram game sight names.names

-- and the diagram from its text
abbrev pub IsSightDrawn : Subject → NamedDiagram → NamedGame → Sight →
    (diagram_text game_text picture : List ℕ) → Type 0
IsSightDrawn Game diagram game sight diagram_text game_text picture = IsGameSeen diagram game sight game_text picture
IsSightDrawn Features diagram game sight diagram_text game_text picture =
    picture ≡ feature_drawing diagram.names sight.known sight.choices diagram_text

-- The page with these choices of features and these verdicts is drawn, under what the choices make known.
pub record IsPageDrawn (subject : Subject) (diagram : NamedDiagram) (game : NamedGame) (choices : List Literal)
    (verdicts : List Verdict) (diagram_text game_text picture : List ℕ) : Type 0 where
  pub known : List Tri
  pub known_is : IsKnownTable diagram.lines choices known
  pub drawn : IsSightDrawn subject diagram game (sight_of known choices verdicts) diagram_text game_text picture
