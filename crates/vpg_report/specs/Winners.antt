-- The winners, by the answers of a run. This project's own.
use Rattle.std.specs.Prelude.{◌≡◌, ◌⊎◌, ℕ, ◌<◌, Bool, Option, List, [], ◌∷◌, ◌++◌, length, map, Some, flat_map, slice_index, codes, decimal, ⊤}
use Rattle.std.specs.List.{range_with_len}
use Rattle.vpg_diagram.specs.DiagramText.{NamedDiagram}
use Rattle.vpg_game.specs.Game.{NamedGame}
use Rattle.vpg_sides.specs.declared.verdict.Verdict.{Verdict}
use Rattle.vpg_trail.specs.Page.{Entry}
use Rattle.vpg_desk.specs.Headline.{VerdictMeans}
use Rattle.vpg_desk.specs.State.{IsOpened}
use Rattle.vpg_checking.specs.Behaviours.{Behaviour}
use Rattle.vpg_script.specs.declared.look.PageLook.TheVariants as page_looks
use Rattle.vpg_script.specs.Script as script
use Rattle.vpg_script.specs.Script.{Request}
use Rattle.vpg_script.specs.Answer.{Answer, done, refused}
use Rattle.vpg_script.specs.Output.{Machine, Answered}
use Rattle.vpg_texts.specs.Changed.{changed_text, seen_at}
use Rattle.vpg_texts.specs.Labels.{label_of, beside}
use Rattle.vpg_texts.specs.Scene.{Scene, scene_of}
use Rattle.vpg_texts.specs.Sights.{verdicts_answer}
use Rattle.vpg_texts.specs.Text.{blank_number, hopeless_text, sure_text}
use Rattle.vpg_looks.specs.Asserted.{failing}
use Rattle.vpg_engine.specs.Answers.{vertex_of}
use Rattle.vpg_engine.specs.Line.{Between, begun}
use Rattle.vpg_report.specs.Run.{answering, as_meant}
use Rattle.vpg_engine.specs.Setting.{setting_in}

-- The verdicts of all vertices are true of the page: from a hopeless one Odd wins in every product left, from a sure
-- one Even does, and none is both.
pub record AreTrue (scene : Scene) (page : List Entry) (verdicts : List Verdict) : Type 0 where
  pub size : length verdicts ≡ length scene.game
  pub each : (v : ℕ) → v < length scene.game →
      VerdictMeans (setting_in scene) page v (seen_at verdicts v).hopeless (seen_at verdicts v).sure

-- A line of `show`: the vertex's identifier, its measures in two tables, the words of its verdict, `hopeless` or
-- `possible` and `sure` or `unsure`, and its name.
abbrev pub verdict_line : Scene → (hopeful dual : List ℕ) → List Verdict → ℕ → List ℕ
verdict_line scene hopeful dual verdicts v =
    decimal (slice_index scene.identifiers v) ++ blank_number (slice_index hopeful v)
    ++ blank_number (slice_index dual v) ++ hopeless_text (seen_at verdicts v).hopeless
    ++ sure_text (seen_at verdicts v).sure ++ beside (label_of scene.labels v) ++ 10 ∷ []

-- those of these vertices, in their order
abbrev pub verdict_lines : Scene → (hopeful dual : List ℕ) → List Verdict → List ℕ → List ℕ
verdict_lines scene hopeful dual verdicts vertices = flat_map (verdict_line scene hopeful dual verdicts) vertices

-- The answer to a command says these verdicts of vertices.
abbrev pub SaysVerdicts : Scene → script.Command → List Verdict → Answer → Type 0
-- it ends with a line for each vertex
SaysVerdicts scene (script.Looks (script.OfPage page_looks.Show)) verdicts answer =
    (head : List ℕ) × (hopeful : List ℕ) × (dual : List ℕ) ×
    (answer ≡ done (head ++ verdict_lines scene hopeful dual verdicts (range_with_len 0 (length scene.game))))
-- it has a line for each of the vertices that are named
SaysVerdicts scene (script.Looks (script.OfVertices named)) verdicts answer =
    (vertices : List ℕ) × (hopeful : List ℕ) × (dual : List ℕ) ×
    (map (vertex_of scene) named ≡ map Some vertices) ×
    (answer ≡ done (verdict_lines scene hopeful dual verdicts vertices))
-- it compares the vertex's verdict with the asserted ones, or fails since no product was found
SaysVerdicts scene (script.Looks (script.OfClaims named claims)) verdicts answer =
    ((v : ℕ) × (settled : Bool) × (vertex_of scene named ≡ Some v) ×
    (answer ≡ verdicts_answer settled (seen_at verdicts v).hopeless (seen_at verdicts v).sure claims))
    ⊎ (answer ≡ failing (codes "empty")) ⊎ (answer ≡ failing (codes "unsettled"))
-- it lists those that differ from the ones reported before
SaysVerdicts scene script.Changed verdicts answer =
    (seen : List Verdict) × (answer ≡ done (changed_text scene.identifiers scene.labels seen verdicts))
SaysVerdicts scene _ verdicts answer = ⊤

-- the answer to a line that is refused
abbrev pub IsRefusal : Answer → Type 0
IsRefusal answer = (why : List ℕ) × (answer ≡ refused why)

-- An answer that isn't a refusal says of vertices what is true of the page.
abbrev pub NamesWinners : Scene → List Entry → script.Command → Answer → Type 0
NamesWinners scene page command answer =
    IsRefusal answer ⊎
    ((verdicts : List Verdict) × AreTrue scene page verdicts × SaysVerdicts scene command verdicts answer)

-- Each request is answered as by a run, and by what is true of the page at that point.
abbrev pub naming : Option Behaviour → Scene → ℕ → Machine Between
naming behaviour scene lifters old request answer new =
    answering behaviour scene lifters old request answer new ×
    NamesWinners scene old.book.present request.command answer

-- The answers of an office's run to `show`, `assert` and `changed` name the winners. The verdicts that they say are
-- true of the page at that point, under any meaning of the lines, and with any names of vertices.
abbrev pub AnswersNameWinners : Type 0
AnswersNameWinners =
    (meaning : Request → Request) (behaviour : Option Behaviour) (labels : List (List ℕ)) (game : NamedGame)
    (diagram : NamedDiagram) (lifters : ℕ) (lines : List (List ℕ)) (answers : List Answer) (new : Between) →
    IsOpened game diagram →
    Answered (as_meant meaning (answering behaviour (scene_of labels game diagram) lifters)) begun lines answers new →
    Answered (as_meant meaning (naming behaviour (scene_of labels game diagram) lifters)) begun lines answers new
