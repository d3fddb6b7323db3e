-- The meaning of a run's answers to `winners` for requirements, if its game is that of the texts of a system and of
-- requirements. This project's own.
use Rattle.std.specs.Prelude.{◌≡◌, ◌⊎◌, ℕ, ◌<◌, Bool, Option, Some, List, length, slice_index, IsTrue}
use Rattle.std.specs.List.{AllByRecursion}
use Rattle.vpg_diagram.specs.DiagramText.{NamedDiagram}
use Rattle.vpg_game.specs.Game.{NamedGame, graph_of}
use Rattle.vpg_partial.specs.KnownLaws.{IsRemaining}
use Rattle.vpg_trail.specs.Page.{Entry, choices_of}
use Rattle.vpg_system.specs.SystemText.{NamedSystem}
use Rattle.vpg_formula.specs.Requirements as written
use Rattle.vpg_checking.specs.Behaviours.{Behaviour}
use Rattle.vpg_checking.specs.Checking.{EntryHoldsIn, IsModelOfTexts}
use Rattle.vpg_winners.specs.declared.parts.Winner.TheVariants.{Won, Lost}
use Rattle.vpg_winners.specs.Joined.{PartView}
use Rattle.vpg_winners.specs.Winners.{ArePartition, is_in}
use Rattle.vpg_script.specs.declared.look.VertexLook.TheVariants as vertex_looks
use Rattle.vpg_script.specs.Script as script
use Rattle.vpg_script.specs.Script.{Request}
use Rattle.vpg_script.specs.Answer.{Answer, IsDone}
use Rattle.vpg_script.specs.Output.{Machine, Answered}
use Rattle.vpg_texts.specs.Labels.{label_of}
use Rattle.vpg_texts.specs.Scene.{Scene, scene_of}
use Rattle.vpg_looks.specs.Texts.{winners_text}
use Rattle.vpg_number.specs.declared.counted.Count.{Count}
use Rattle.vpg_engine.specs.Answers.{vertex_of}
use Rattle.vpg_engine.specs.Line.{Between, begun}
use Rattle.vpg_report.specs.Run.{answering, as_meant}
use Rattle.vpg_report.specs.Winners.{IsRefusal}

-- A part is true of a requirement on the page: in each product left that is in the part, the requirement holds if the
-- part is won, and fails if it is lost.
abbrev pub IsPartTrueOf : Scene → List Entry → (Holds : List Bool → Type 0) → PartView → Type 0
IsPartTrueOf scene page Holds part =
    (set : List Bool) → IsRemaining scene.lines (choices_of page) set → IsTrue (is_in set part) →
    (part.winner ≡ Won → Holds set) × (part.winner ≡ Lost → Holds set → ⊥)

-- The text has a line for each of some parts, with a number of products. Each product left is in exactly one of them,
-- and each is true of the requirement.
pub record PartsProducts (scene : Scene) (page : List Entry) (vertex : ℕ) (Holds : List Bool → Type 0)
    (text : List ℕ) : Type 0 where
  pub parts : List PartView
  pub counts : List Count
  pub partition : ArePartition scene.lines (choices_of page) parts
  pub true_of : AllByRecursion (IsPartTrueOf scene page Holds) parts
  pub text_is : text ≡ winners_text scene.names (slice_index scene.identifiers vertex)
      (label_of scene.labels vertex) parts counts

-- the command `winners V`
abbrev pub winners_of : script.Vertex → script.Command
winners_of named = script.Looks (script.OfVertex vertex_looks.Winners named)

-- If the command is `winners V`, and V is the vertex of an entry, its answer parts the products left by whether the
-- entry's requirement holds, unless the line is refused.
abbrev pub PartsByEntries : Scene → NamedSystem → List written.Entry → List ℕ → List Entry → script.Command →
    Answer → Type 0
PartsByEntries scene system entries roots page command answer =
    (named : script.Vertex) (n : ℕ) → command ≡ winners_of named → n < length entries →
    vertex_of scene named ≡ Some (slice_index roots n) → IsRefusal answer ⊎
    IsDone (PartsProducts scene page (slice_index roots n) (EntryHoldsIn system entries n)) answer

-- Each request is answered as by a run, with parts that are true of the entries on the page at that point.
abbrev pub parting : Option Behaviour → Scene → ℕ → NamedSystem → List written.Entry → List ℕ → Machine Between
parting behaviour scene lifters system entries roots old request answer new =
    answering behaviour scene lifters old request answer new ×
    PartsByEntries scene system entries roots old.book.present request.command answer

-- A run on the game of two texts, of a system and of requirements, answers `winners V`. The parts in its answers are
-- true of these requirements in this system, under any meaning of the lines, and with any names of vertices.
abbrev pub PartsSpeakOfRequirements : Type 0
PartsSpeakOfRequirements =
    (meaning : Request → Request) (behaviour : Option Behaviour) (labels : List (List ℕ)) (game : NamedGame)
    (diagram : NamedDiagram) (system_text requirements_text : List ℕ) (roots : List ℕ)
    (made : IsModelOfTexts diagram.names diagram.lines system_text requirements_text (graph_of game) roots)
    (lifters : ℕ) (lines : List (List ℕ)) (answers : List Answer) (new : Between) →
    Answered (as_meant meaning (answering behaviour (scene_of labels game diagram) lifters)) begun lines answers new →
    Answered
    (as_meant meaning (parting behaviour (scene_of labels game diagram) lifters made.system made.entries roots)) begun
    lines answers new
