-- Pages that scripts leave, drawn.
use Rattle.std.proofs.Common.{◌≡◌, inr, ℕ, ◌<◌, List, length, map, Option, Some, None, Result, Ok, sym, ap, subst, ◌∙◌, []}
use Rattle.std.specs.Prelude.{IfOk, IfSome}
use Rattle.vpg_diagram.specs.DiagramText.{NamedDiagram}
use Rattle.vpg_game.specs.Game.{NamedGame}
use Rattle.vpg_diagram.specs.FeatureDiagram.{feature_count}
use Rattle.vpg_measure.specs.Orders.{OrderView, IsOrder}
use Rattle.vpg_trail.specs.Page.{literal_of}
use Rattle.vpg_script.specs.declared.serving.Ending.{Ending}
use Rattle.vpg_family.specs.Systems.{IsSystemFault, IsSystemOn}
use Rattle.vpg_family.specs.declared.drawing.Subject.{Subject}
use Rattle.vpg_family.specs.declared.known.Context.{Context}
use Rattle.vpg_family.specs.declared.fault.Fault.{Fault}
use Rattle.vpg_script.specs.Calling.{meant}
use Rattle.vpg_script.specs.Script.{Request, said}
use Rattle.vpg_script.specs.View.{command_shown, look_shown}
use Rattle.vpg_script.specs.declared.command.Command.{Command}
use Rattle.vpg_script.specs.declared.command.Command.TheVariants as asking
use Rattle.vpg_script.specs.declared.look.Look.{Look}
use Rattle.vpg_script.specs.declared.look.VertexLook.{VertexLook}
use Rattle.vpg_script.specs.declared.look.VertexLook.TheVariants as vertex_looks
use Rattle.vpg_checking.specs.Behaviours.{Behaviour}
use Rattle.vpg_trace.specs.Answering.{Page}
use Rattle.vpg_system_draw.specs.Traced.{Trail}
use Rattle.vpg_steps.specs.Steps.{FindsPath}
use Rattle.vpg_texts.specs.Scene.{Scene, scene_of}
use Rattle.vpg_looks.specs.Answers.{IsOver}
use Rattle.vpg_answers.specs.Topics.{IsWithin, TopicHasSystem, found_shown, topic_of, topic_shown}
use Rattle.vpg_answers.specs.declared.topic.Missing.{Missing}
use Rattle.vpg_answers.specs.declared.topic.Topic as code
use Rattle.vpg_answers.specs.declared.topic.Topic.TheVariants as topics
use Rattle.vpg_engine.specs.Answers.{answer_limits}
use Rattle.vpg_report.specs.Draws.{tracing_line, AsksTrace, FindsTrail, IsDrawnAfter, IsDrawnOn, IsSystemDrawnAfter, IsSystemUndrawnAfter, IsTracedAfter, IsTracedOn, RequestAsksTrace}
use Rattle.vpg_report.specs.Left.{IsLeft}
use Rattle.vpg_report.specs.Run.{called_in}

module _ (diagram : NamedDiagram) (game : NamedGame) (context : Context) (script : List ℕ) (ending : Ending) (order : OrderView) (is : IsLeft diagram game context script ending (Some order)) where
  pub drawn : (subject : Subject) (diagram_text game_text picture : List ℕ) → IsDrawnOn subject order.diagram order.game order.decisions order.hopeful order.dual diagram_text game_text picture →
      IsDrawnAfter subject diagram game context diagram_text game_text script ending picture
  drawn subject diagram_text game_text picture on =
      let of = is.2 in
      (is.0, is.1, coe 0 1 (i. IsDrawnOn subject (of.diagram_is i) (of.game_is i) (of.decisions_are i) (of.hopeful_is i) (of.dual_is i) diagram_text game_text picture) on)

  pub system_drawn : (system_text picture : List ℕ) → IsSystemOn order.diagram (map literal_of order.decisions) system_text None picture → IsSystemDrawnAfter diagram game context system_text script ending picture
  system_drawn system_text picture on =
      let of = is.2 in
      (is.0, is.1, coe 0 1 (i. IsSystemOn (of.diagram_is i) (map literal_of (of.decisions_are i)) system_text None picture) on)

  pub undrawn : (system_text : List ℕ) (fault : Fault) → IsSystemFault order.diagram.names system_text fault → IsSystemUndrawnAfter diagram game context system_text script fault
  undrawn system_text fault on = inr (subst (λ (d : NamedDiagram). IsSystemFault d.names system_text fault) is.2.diagram_is on)

  pub traced_after : (system_text word line picture : List ℕ) → IsTracedOn (called_in order.game order.diagram context) order.diagram order.decisions order.hopeful order.dual system_text line picture → line ≡ tracing_line word →
      IsTracedAfter diagram game context system_text script word ending picture
  traced_after system_text word line picture on same =
      let of = is.2 in
      (is.0, is.1, coe 0 1 (i. IsTracedOn (called_in (of.game_is i) (of.diagram_is i) context) (of.diagram_is i) (of.decisions_are i) (of.hopeful_is i) (of.dual_is i) system_text (same i) picture) on)

-- ---- lines that ask for a trace

-- a request asks as it is meant, also where the game and the diagram are copies
pub request_asks : (context : Context) (game other : NamedGame) (diagram seen : NamedDiagram) (names : List (List ℕ)) (request said : Request) (vertex : ℕ) → other ≡ game → seen ≡ diagram → names ≡ diagram.names →
    said ≡ meant context.callings names request → AsksTrace context.behaviour (scene_of [] other seen) said.command vertex → RequestAsksTrace (called_in game diagram context) request vertex
request_asks context game other diagram seen names request said vertex g d n s is =
    let same : said ≡ meant context.callings diagram.names request = s ∙ ap (λ (fs : List (List ℕ)). meant context.callings fs request) n in
    coe 0 1 (k. AsksTrace context.behaviour (scene_of [] (g k) (d k)) (same k).command vertex) is

-- a command that asks for a trace, by places
pub trace_asked : (behaviour : Option Behaviour) (scene : Scene) (command : Command) (look : Look) (topic : code.Topic) (what : VertexLook) (vertex : ℕ) (found : Result code.Topic Missing) → command ≡ asking.Look look →
    found_shown found ≡ topic_of behaviour scene (look_shown look) → found ≡ Ok topic → topic ≡ topics.OfVertex what vertex → what ≡ vertex_looks.Trace → AsksTrace behaviour scene (command_shown command) vertex
trace_asked behaviour scene command look topic what vertex found of said ok is trace =
    subst (λ (c : Command). AsksTrace behaviour scene (command_shown c) vertex) (sym of)
    (sym said ∙ ap found_shown (ok ∙ ap (λ (t : code.Topic). Ok t) (is ∙ ap (λ (w : VertexLook). topics.OfVertex w vertex) trace)))

-- what holds of a topic that was found
pub topic_so : (found : Result code.Topic Missing) (topic : code.Topic) (P : code.Topic → Type 0) → found ≡ Ok topic → IfOk found P → P topic
topic_so found topic P is so = subst (λ (r : Result code.Topic Missing). IfOk r P) is so

-- the vertex of a trace that was found
pub found_some : {E : Type 0} (found : Result (Option ℕ) E) (place : Option ℕ) (vertex : ℕ) (P : ℕ → Type 0) → found ≡ Ok place → place ≡ Some vertex → IfOk found (λ o. IfSome o P) → P vertex
found_some {E} found place vertex P is some so = subst (λ (o : Option ℕ). IfSome o P) some (subst (λ (r : Result (Option ℕ) E). IfOk r (λ o. IfSome o P)) is so)

pub trace_within : (behaviour : Option Behaviour) (vertices features : ℕ) (topic : code.Topic) (what : VertexLook) (vertex : ℕ) → topic ≡ topics.OfVertex what vertex → what ≡ vertex_looks.Trace →
    IsWithin vertices features (topic_shown topic) → TopicHasSystem features behaviour (topic_shown topic) → (vertex < vertices) × IsOver features behaviour
trace_within behaviour vertices features topic what vertex is trace within has =
    let same : topic ≡ topics.OfVertex vertex_looks.Trace vertex = is ∙ ap (λ (w : VertexLook). topics.OfVertex w vertex) trace in
    (subst (λ (t : code.Topic). IsWithin vertices features (topic_shown t)) same within, subst (λ (t : code.Topic). TopicHasSystem features behaviour (topic_shown t)) same has)

-- of copies of an order's game and diagram
pub within_copies : (order : OrderView) (game : NamedGame) (diagram : NamedDiagram) (behaviour : Option Behaviour) (vertex : ℕ) → IsOrder order → game ≡ order.game → diagram ≡ order.diagram →
    (vertex < length game.vertices) × IsOver (length diagram.names) behaviour → (vertex < length order.game.vertices) × IsOver (feature_count order.diagram.lines) behaviour
within_copies order game diagram behaviour vertex is g d within = (
  subst (λ (x : NamedGame). vertex < length x.vertices) g within.0,
  subst (λ (n : ℕ). IsOver n behaviour) is.diagram.each_named (subst (λ (x : NamedDiagram). IsOver (length x.names) behaviour) d within.1),
)

-- ---- traces

-- a system over the diagram's features is one over the game's
pub system_over : (order : OrderView) (behaviour : Option Behaviour) (made : Behaviour) → IsOrder order → behaviour ≡ Some made → IsOver (feature_count order.diagram.lines) behaviour → made.features ≡ order.game.features
system_over order behaviour made is some over = subst (λ (b : Option Behaviour). IsOver (feature_count order.diagram.lines) b) some over ∙ sym is.features

pub trail_found : (behaviour : Option Behaviour) (made : Behaviour) (page : Page) (vertex : ℕ) (found : Option Trail) (trail : Trail) → behaviour ≡ Some made → found ≡ Some trail → FindsPath page made answer_limits vertex found →
    FindsTrail behaviour page vertex trail
trail_found behaviour made page vertex found trail some is finds =
    subst (λ (b : Option Behaviour). FindsTrail b page vertex trail) (sym some) (subst (λ (f : Option Trail). FindsPath page made answer_limits vertex f) is finds)
