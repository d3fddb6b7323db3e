-- A run's answer to a look at a vertex is one about the page at that point.
use Rattle.std.proofs.Common.{◌≡◌, ℕ, ◌+◌, ◌⊎◌, inl, inr, Bool, true, false, List, Option, Some, None, Ok, length, refl, subst}
use Rattle.vpg_diagram.specs.DiagramText.{NamedDiagram}
use Rattle.vpg_game.specs.Game.{NamedGame}
use Rattle.vpg_trail.specs.Page.{Decision, decisions_of}
use Rattle.vpg_desk.specs.Book.{Book, Order, Reply, Ordered, PageIs}
use Rattle.vpg_desk.specs.History.{Event, IsLegalFrom}
use Rattle.vpg_checking.specs.Behaviours.{Behaviour}
use Rattle.vpg_script.specs.declared.look.VertexLook.{VertexLook}
use Rattle.vpg_script.specs.Script as script
use Rattle.vpg_script.specs.Script.{Request}
use Rattle.vpg_texts.specs.Scene.{Scene, scene_of}
use Rattle.vpg_looks.specs.Meanings.{ordered_sight}
use Rattle.vpg_answers.specs.Told.{IsTold}
use Rattle.vpg_answers.specs.Topics.{Topic, OfVertex, is_answerable, topic_if, topic_of}
use Rattle.vpg_script.specs.Answer.{Answer}
use Rattle.vpg_engine.specs.Answers.{Begins, NoSystem, NoVertex, own_text, vertex_of, answer_limits}
use Rattle.vpg_engine.specs.Held.{Held}
use Rattle.vpg_engine.specs.Requests.{Continues, Serves, call_or_missing}
use Rattle.vpg_engine.specs.Line.{Between}
use Rattle.vpg_report.specs.Run.{answering}
use Rattle.vpg_report.specs.Winners.{IsRefusal}
use Rattle.vpg_report.proofs.Histories.{Goes, asked, family_at, ordered_is}

module _ (behaviour : Option Behaviour) (labels : List (List ℕ)) (game : NamedGame) (diagram : NamedDiagram) (look : VertexLook) (book : Book)
    (named : script.Vertex) (answer : Answer) where
  abbrev scene : Scene
  scene = scene_of labels game diagram

  abbrev at_vertex : script.Look
  at_vertex = script.OfVertex look named

  -- the line is refused, or this answers the look at the vertex, on the page
  abbrev pub IsReplied : Type 0
  IsReplied = IsRefusal answer ⊎
      ((v : ℕ) × (vertex_of scene named ≡ Some v) × (hopeful : List ℕ) × (dual : List ℕ) ×
      IsTold behaviour scene answer_limits (OfVertex look v) (ordered_sight (decisions_of book.present) hopeful dual) answer)

  -- ---- the topic

  of_topic : (answerable : Bool) (found : Option ℕ) (topic : Topic) → topic_if answerable look found ≡ Ok topic →
      (v : ℕ) × (found ≡ Some v) × (topic ≡ OfVertex look v)
  of_topic true (Some v) topic e = (v, refl, cc e)
  of_topic _ found topic e = absurd (cc e)

  -- ---- the answer

  answered : (decisions : List Decision) (hopeful dual : List ℕ) → decisions ≡ decisions_of book.present →
      (topic : Topic) → topic_of behaviour scene at_vertex ≡ Ok topic →
      IsTold behaviour scene answer_limits topic (ordered_sight decisions hopeful dual) answer → IsReplied
  answered decisions hopeful dual same topic e so =
      let (v, found, is) = of_topic (is_answerable (length scene.names) behaviour look) (vertex_of scene named) topic e in
      inr (
        v,
        found,
        hopeful,
        dual,
        subst (λ (ds : List Decision). IsTold behaviour scene answer_limits (OfVertex look v) (ordered_sight ds hopeful dual) answer) same
            (subst (λ (t : Topic). IsTold behaviour scene answer_limits t (ordered_sight decisions hopeful dual) answer) is so),
      )

  module _ (held new : Held) (count label : ℕ) where
    abbrev Rests : Reply → List Event → Answer → Held → Type 0
    Rests = Continues behaviour scene held count label (script.Looks at_vertex)

    replied : IsRefusal answer ⊎ Goes scene held book label Order Rests answer new → IsReplied
    replied (inl refusal) = inl refusal
    replied (inr (Ordered decisions hopeful dual, rest, told, more, so)) =
        answered decisions hopeful dual (ordered_is (family_at scene) book decisions hopeful dual told).0 so.0.0 so.0.1.0 so.0.1.1
    replied (inr (PageIs page, rest, (None, (refuses, told)), more, so)) = absurd (cc told)
    replied (inr (PageIs page, rest, (Some r, (refuses, told)), more, so)) = absurd (cc told)
    replied (inr (reply, rest, told, more, so)) = absurd so

    -- a look at a vertex takes an order
    begins : (answerable : Bool) (found : Option ℕ) (before : ℕ) (calls : List Event) → IsLegalFrom (family_at scene) book calls →
        Begins scene held before label Rests (call_or_missing (topic_if answerable look found)) calls answer new → IsReplied
    begins false found before calls legal so = inl (own_text NoSystem, so.1)
    begins true None before calls legal so = inl (own_text NoVertex, so.1)
    begins true (Some v) before calls legal so = replied (asked scene held book before label Order Rests calls answer new legal so)

pub served : (behaviour : Option Behaviour) (labels : List (List ℕ)) (game : NamedGame) (diagram : NamedDiagram) (look : VertexLook) (old new : Between) (lifters : ℕ)
    (request : Request) (named : script.Vertex) (answer : Answer) → request.command ≡ script.Looks (script.OfVertex look named) →
    answering behaviour (scene_of labels game diagram) lifters old request answer new → IsReplied behaviour labels game diagram look old.book named answer
served behaviour labels game diagram look old new lifters request named answer is ((calls, so), made) =
    let scene : Scene = scene_of labels game diagram in
    begins behaviour labels game diagram look old.book named answer old.held new.held (old.calls + 1) request.label (is_answerable (length scene.names) behaviour look) (vertex_of scene named) old.calls calls so.1
    (subst (λ (command : script.Command). Serves behaviour scene old.held old.calls (record { label = request.label; command = command }) calls answer new.held) is so.0)
