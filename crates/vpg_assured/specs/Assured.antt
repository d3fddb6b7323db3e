-- The meaning of a run's answers for requirements, if its game is that of the texts of a system and of requirements.
-- This project's own.
use Rattle.std.specs.Prelude.{◌⊎◌, ℕ, ◌<◌, Bool, Option, List, length, slice_index, IsTrue}
use Rattle.vpg_sides.specs.declared.verdict.Verdict.{Verdict}
use Rattle.vpg_diagram.specs.DiagramText.{NamedDiagram}
use Rattle.vpg_game.specs.Game.{NamedGame, graph_of}
use Rattle.vpg_partial.specs.KnownLaws.{IsRemaining}
use Rattle.vpg_trail.specs.Page.{Entry, choices_of}
use Rattle.vpg_desk.specs.State.{IsOpened}
use Rattle.vpg_system.specs.SystemText.{NamedSystem}
use Rattle.vpg_formula.specs.Requirements as written
use Rattle.vpg_checking.specs.Behaviours.{Behaviour}
use Rattle.vpg_checking.specs.Checking.{EntryHoldsIn, IsModelOfTexts}
use Rattle.vpg_script.specs.Script as script
use Rattle.vpg_script.specs.Script.{Request}
use Rattle.vpg_script.specs.Answer.{Answer}
use Rattle.vpg_script.specs.Output.{Machine, Answered}
use Rattle.vpg_texts.specs.Changed.{seen_at}
use Rattle.vpg_texts.specs.Scene.{Scene, scene_of}
use Rattle.vpg_engine.specs.Line.{Between, begun}
use Rattle.vpg_report.specs.Run.{answering, as_meant}
use Rattle.vpg_report.specs.Winners.{AreTrue, SaysVerdicts, IsRefusal}

-- A verdict is true of a requirement on the page: hopeless, it fails in each product left; sure, it holds in each.
pub record IsTrueOf (scene : Scene) (page : List Entry) (Holds : List Bool → Type 0) (verdict : Verdict) : Type 0 where
  pub fails : IsTrue verdict.hopeless → (set : List Bool) → IsRemaining scene.lines (choices_of page) set →
      Holds set → ⊥
  pub holds : IsTrue verdict.sure → (set : List Bool) → IsRemaining scene.lines (choices_of page) set → Holds set

-- the verdict at the vertex of each entry is true of the entry's requirement
abbrev pub AreTrueOfEntries : Scene → NamedSystem → List written.Entry → List ℕ → List Entry → List Verdict → Type 0
AreTrueOfEntries scene system entries roots page verdicts = (n : ℕ) → n < length entries →
    IsTrueOf scene page (EntryHoldsIn system entries n) (seen_at verdicts (slice_index roots n))

-- An answer that isn't a refusal says of vertices what is true of the page, and of the entries' requirements.
abbrev pub SpeaksOfEntries : Scene → NamedSystem → List written.Entry → List ℕ → List Entry → script.Command →
    Answer → Type 0
SpeaksOfEntries scene system entries roots page command answer =
    IsRefusal answer ⊎
    ((verdicts : List Verdict) × AreTrue scene page verdicts ×
    AreTrueOfEntries scene system entries roots page verdicts × SaysVerdicts scene command verdicts answer)

-- Each request is answered as by a run, with verdicts that are true of the entries on the page at that point.
abbrev pub speaking : Option Behaviour → Scene → ℕ → NamedSystem → List written.Entry → List ℕ → Machine Between
speaking behaviour scene lifters system entries roots old request answer new =
    answering behaviour scene lifters old request answer new ×
    SpeaksOfEntries scene system entries roots old.book.present request.command answer

-- A run of an office on the game of two texts, of a system and of requirements, answers `show`, `assert` and `changed`.
-- The verdicts in its answers are true of these requirements in this system, under any meaning of the lines, and
-- with any names of vertices.
abbrev pub AnswersSpeakOfRequirements : Type 0
AnswersSpeakOfRequirements =
    (meaning : Request → Request) (behaviour : Option Behaviour) (labels : List (List ℕ)) (game : NamedGame)
    (diagram : NamedDiagram) (system_text requirements_text : List ℕ) (roots : List ℕ)
    (made : IsModelOfTexts diagram.names diagram.lines system_text requirements_text (graph_of game) roots)
    (lifters : ℕ) (lines : List (List ℕ)) (answers : List Answer) (new : Between) →
    IsOpened game diagram →
    Answered (as_meant meaning (answering behaviour (scene_of labels game diagram) lifters)) begun lines answers new →
    Answered
    (as_meant meaning (speaking behaviour (scene_of labels game diagram) lifters made.system made.entries roots)) begun
    lines answers new
