-- The answers of a run to traces report steps of the system.
use Rattle.std.proofs.Common.{◌≡◌, ℕ, ◌⊎◌, inl, inr, List, Some}
use Rattle.vpg_diagram.specs.DiagramText.{NamedDiagram}
use Rattle.vpg_game.specs.Game.{NamedGame}
use Rattle.vpg_checking.specs.Behaviours.{Behaviour}
use Rattle.vpg_script.specs.declared.look.VertexLook.TheVariants as vertex_looks
use Rattle.vpg_script.specs.Script as script
use Rattle.vpg_script.specs.Answer.{Answer, IsDone}
use Rattle.vpg_texts.specs.Scene.{Scene, scene_of}
use Rattle.vpg_family.specs.Made.{IsMadeOf}
use Rattle.vpg_desk.specs.Book.{Book}
use Rattle.vpg_engine.specs.Answers.{vertex_of, answer_limits}
use Rattle.vpg_engine.specs.Line.{Between, begun}
use Rattle.vpg_report.specs.Run.{answering, as_meant}
use Rattle.vpg_report.specs.Winners.{IsRefusal}
use Rattle.vpg_report.proofs.Histories.{answered_as}
use Rattle.vpg_assured.specs.Traced.{HasNoWalk, ReportsWalk, TracedStepsAreThere, tracing}
use Rattle.vpg_assured.proofs.Replied.{IsReplied, served}
use Rattle.vpg_assured.proofs.Walked.{reports_trace}

module _ (labels : List (List ℕ)) (game : NamedGame) (diagram : NamedDiagram) (system_text : List ℕ) (behaviour : Behaviour)
    (made : IsMadeOf diagram system_text game behaviour) where
  abbrev scene : Scene
  scene = scene_of labels game diagram

  reports : (book : Book) (named : script.Vertex) (answer : Answer) → IsReplied (Some behaviour) labels game diagram vertex_looks.Trace book named answer →
      IsRefusal answer ⊎ ((vertex : ℕ) × (vertex_of scene named ≡ Some vertex) ×
      IsDone (λ text. HasNoWalk scene vertex text ⊎ ReportsWalk scene made.system behaviour book.present vertex text) answer)
  reports book named answer (inl refused) = inl refused
  reports book named answer (inr a) = inr (
    a.0,
    a.1,
    (a.4.tells.0, reports_trace labels game diagram system_text behaviour made a.4.diagram book.present a.2 a.3 answer_limits a.0 answer.text a.4.tells.1),
  )

pub traced_steps_are_there : TracedStepsAreThere
traced_steps_are_there meaning behaviour labels game diagram system_text made lifters lines answers new answered =
    let scene : Scene = scene_of labels game diagram in
    answered_as (as_meant meaning (answering (Some behaviour) scene lifters)) (as_meant meaning (tracing behaviour scene lifters made.system)) (λ (old : Between). Unit {0})
    (λ old request answer next here so. (
      tt,
      (
        so,
        λ named is. reports labels game diagram system_text behaviour made old.book named answer
            (served (Some behaviour) labels game diagram vertex_looks.Trace old next lifters (meaning request) named answer is so),
      ),
    )) begun lines answers new tt answered
