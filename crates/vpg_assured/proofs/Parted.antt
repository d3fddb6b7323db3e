-- The answers of a run to `winners` part products by requirements.
use Rattle.std.proofs.Common.{◌≡◌, ℕ, ◌<◌, ◌⊎◌, inl, inr, Bool, List, Option, Some, length, subst}
use Rattle.std.specs.Prelude.{slice_index}
use Rattle.vpg_diagram.specs.DiagramText.{NamedDiagram}
use Rattle.vpg_diagram.proofs.Lists.{All-implies}
use Rattle.vpg_game.specs.Game.{NamedGame, graph_of}
use Rattle.vpg_trail.specs.Page.{Entry, choices_of, decisions_of}
use Rattle.vpg_desk.specs.Book.{Book}
use Rattle.vpg_checking.specs.Behaviours.{Behaviour}
use Rattle.vpg_checking.specs.Checking.{EntryHoldsIn, IsModelOfTexts}
use Rattle.vpg_winners.specs.declared.parts.Winner.{Winner}
use Rattle.vpg_winners.specs.Joined.{PartView}
use Rattle.vpg_winners.specs.Winners.{IsExactPart, IsWonAs}
use Rattle.vpg_script.specs.declared.look.VertexLook.TheVariants as vertex_looks
use Rattle.vpg_script.specs.Script as script
use Rattle.vpg_script.specs.Answer.{Answer, IsDone}
use Rattle.vpg_texts.specs.Scene.{Scene, scene_of}
use Rattle.vpg_looks.specs.Answers.{TellsWinners}
use Rattle.vpg_engine.specs.Answers.{vertex_of, answer_limits}
use Rattle.vpg_engine.specs.Line.{Between, begun}
use Rattle.vpg_report.specs.Run.{answering, as_meant}
use Rattle.vpg_report.specs.Winners.{IsRefusal}
use Rattle.vpg_report.proofs.Histories.{answered_as}
use Rattle.vpg_assured.specs.Parted.{IsPartTrueOf, PartsProducts, PartsSpeakOfRequirements, parting}
use Rattle.vpg_assured.proofs.Replied.{IsReplied, served}

module _ (labels : List (List ℕ)) (game : NamedGame) (diagram : NamedDiagram) (system_text requirements_text roots : List ℕ)
    (made : IsModelOfTexts diagram.names diagram.lines system_text requirements_text (graph_of game) roots) where
  abbrev scene : Scene
  scene = scene_of labels game diagram

  module _ (page : List Entry) (n : ℕ) (below : n < length made.entries) where
    abbrev root : ℕ
    root = slice_index roots n

    abbrev Holds : List Bool → Type 0
    Holds set = EntryHoldsIn made.system made.entries n set

    abbrev IsExact : PartView → Type 0
    IsExact part = IsExactPart (graph_of game) diagram.lines (choices_of page) root part

    part_true : (part : PartView) → IsExact part → IsPartTrueOf scene page Holds part
    part_true part exact set remains within = (
      λ won. (made.model.decided n below set).won.1 (subst (λ (w : Winner). IsWonAs (graph_of game) w root set) won (exact set remains within)),
      λ lost. (made.model.decided n below set).lost.1 (subst (λ (w : Winner). IsWonAs (graph_of game) w root set) lost (exact set remains within)),
    )

    parts_products : (text : List ℕ) → TellsWinners scene answer_limits root (decisions_of page) text → PartsProducts scene page root Holds text
    parts_products text so = record {
      parts = so.0;
      counts = so.1;
      partition = so.2.partition;
      true_of = All-implies IsExact (IsPartTrueOf scene page Holds) so.0 part_true so.2.exact;
      text_is = so.4;
    }

  speaks : (behaviour : Option Behaviour) (book : Book) (named : script.Vertex) (answer : Answer) (n : ℕ) (below : n < length made.entries) →
      vertex_of scene named ≡ Some (slice_index roots n) → IsReplied behaviour labels game diagram vertex_looks.Winners book named answer →
      IsRefusal answer ⊎ IsDone (PartsProducts scene book.present (slice_index roots n) (EntryHoldsIn made.system made.entries n)) answer
  speaks behaviour book named answer n below at (inl refused) = inl refused
  speaks behaviour book named answer n below at (inr a) =
      let same : a.0 ≡ slice_index roots n = cc (a.1, at) in
      inr (a.4.tells.0, parts_products book.present n below answer.text (subst (λ (v : ℕ). TellsWinners scene answer_limits v (decisions_of book.present) answer.text) same a.4.tells.1))

pub parts_speak_of_requirements : PartsSpeakOfRequirements
parts_speak_of_requirements meaning behaviour labels game diagram system_text requirements_text roots made lifters lines answers new answered =
    let scene : Scene = scene_of labels game diagram in
    answered_as (as_meant meaning (answering behaviour scene lifters)) (as_meant meaning (parting behaviour scene lifters made.system made.entries roots)) (λ (old : Between). Unit {0})
    (λ old request answer next here so. (
      tt,
      (
        so,
        λ named n is below at. speaks labels game diagram system_text requirements_text roots made behaviour old.book named answer n below at
            (served behaviour labels game diagram vertex_looks.Winners old next lifters (meaning request) named answer is so),
      ),
    )) begun lines answers new tt answered
