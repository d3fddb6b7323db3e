-- Pages that are drawn.
use Rattle.std.proofs.Common.{◌≡◌, ℕ, List, map}
use Rattle.vpg_guards.specs.declared.tri.Tri.{Tri}
use Rattle.vpg_diagram.specs.declared.clause.Literal.{Literal}
use Rattle.vpg_diagram.specs.DiagramText.{NamedDiagram}
use Rattle.vpg_game.specs.Game.{NamedGame}
use Rattle.vpg_partial.specs.Known.{literal_of}
use Rattle.vpg_partial.specs.TableLaws.{IsKnownTable}
use Rattle.vpg_partial.specs.declared.decision.Decision.{Decision}
use Rattle.vpg_sides.specs.declared.verdict.Verdict.{Verdict}
use Rattle.vpg_draw.specs.GameDrawing.{game_drawing}
use Rattle.vpg_game.specs.SpelledNames.{Told}
use Rattle.vpg_family.specs.Pictures.{TellsNames}
use Rattle.vpg_family.specs.Pages.{sight_of, IsGameSeen, IsPageDrawn, IsSightDrawn}
use Rattle.vpg_family.specs.declared.drawing.Subject.{Subject}

pub paged : (subject : Subject) (diagram drawn : NamedDiagram) (game played : NamedGame) (choices : List Literal) (known seen : List Tri) (decisions : List Decision) (verdicts : List Verdict) (diagram_text game_text picture : List ℕ)
    → IsKnownTable diagram.lines choices known → IsSightDrawn subject drawn played (sight_of seen (map literal_of decisions) verdicts) diagram_text game_text picture
    → drawn ≡ diagram → played ≡ game → seen ≡ known → map literal_of decisions ≡ choices → IsPageDrawn subject diagram game choices verdicts diagram_text game_text picture
paged subject diagram drawn game played choices known seen decisions verdicts diagram_text game_text picture known_is is d g k ds = record {
  known = known;
  known_is = known_is;
  drawn = coe 0 1 (i. IsSightDrawn subject (d i) (g i) (sight_of (k i) (ds i) verdicts) diagram_text game_text picture) is;
}

pub seen_game : (diagram : NamedDiagram) (game : NamedGame) (known : List Tri) (choices : List Literal) (verdicts : List Verdict) (text picture : List ℕ) (names : Told)
    → TellsNames text names → picture ≡ game_drawing diagram.names known choices names.names verdicts game → IsGameSeen diagram game (sight_of known choices verdicts) text picture
seen_game diagram game known choices verdicts text picture names told is = record { names = names; names_are = told; picture_is = is }
