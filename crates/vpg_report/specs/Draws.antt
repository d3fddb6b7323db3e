-- The pictures of a family on the page that a script leaves. This project's own.
use Rattle.std.specs.Prelude.{◌≡◌, ◌⊎◌, ℕ, List, ◌++◌, map, Option, Some, None, Ok, codes}
use Rattle.vpg_diagram.specs.DiagramText.{NamedDiagram}
use Rattle.vpg_game.specs.Game.{NamedGame, graph_of}
use Rattle.vpg_trail.specs.Page.{Hopeful, Dual, Decision, literal_of, decisions_of}
use Rattle.vpg_checking.specs.Behaviours.{Behaviour}
use Rattle.vpg_trace.specs.Answering.{Page}
use Rattle.vpg_system_draw.specs.Traced.{Trail}
use Rattle.vpg_steps.specs.Steps.{FindsPath}
use Rattle.vpg_script.specs.Calling.{meant}
use Rattle.vpg_script.specs.Script as commands
use Rattle.vpg_script.specs.Script.{Request, said}
use Rattle.vpg_script.specs.declared.look.VertexLook.TheVariants as vertex_looks
use Rattle.vpg_script.specs.declared.serving.Ending.{Ending}
use Rattle.vpg_family.specs.Pages.{IsPageDrawn}
use Rattle.vpg_family.specs.Systems.{IsSystemFault, IsSystemOn}
use Rattle.vpg_family.specs.declared.drawing.Subject.{Subject}
use Rattle.vpg_family.specs.declared.fault.Fault.{Fault}
use Rattle.vpg_family.specs.declared.known.Context.{Context}
use Rattle.vpg_texts.specs.Changed.{verdicts_by}
use Rattle.vpg_texts.specs.Scene.{Scene}
use Rattle.vpg_looks.specs.Answers.{page_in}
use Rattle.vpg_answers.specs.Topics.{OfVertex, topic_of}
use Rattle.vpg_engine.specs.Answers.{answer_limits}
use Rattle.vpg_report.specs.Left.{LeavesBook, IsUnleft, table_left}
use Rattle.vpg_engine.specs.Line.{Between}
use Rattle.vpg_report.specs.Run.{Called, called_in}

-- the page with these decisions is drawn, with the verdicts by these tables
abbrev pub IsDrawnOn : Subject → NamedDiagram → NamedGame → List Decision → (hopeful dual : List ℕ) →
    (diagram_text game_text picture : List ℕ) → Type 0
IsDrawnOn subject diagram game decisions hopeful dual diagram_text game_text picture =
    IsPageDrawn subject diagram game (map literal_of decisions) (verdicts_by (graph_of game) hopeful dual) diagram_text
    game_text picture

-- The page that the script leaves is drawn.
abbrev pub IsDrawnAfter : Subject → NamedDiagram → NamedGame → Context →
    (diagram_text game_text script : List ℕ) → Ending → (picture : List ℕ) → Type 0
IsDrawnAfter subject diagram game context diagram_text game_text script ending picture =
    (left : Between) × LeavesBook diagram game context script ending left ×
    IsDrawnOn subject diagram game (decisions_of left.book.present) (table_left game left Hopeful)
    (table_left game left Dual) diagram_text game_text picture

-- On the page that the script leaves the system that a text spells is drawn.
abbrev pub IsSystemDrawnAfter : NamedDiagram → NamedGame → Context → (system_text script : List ℕ) → Ending →
    (picture : List ℕ) → Type 0
IsSystemDrawnAfter diagram game context system_text script ending picture =
    (left : Between) × LeavesBook diagram game context script ending left ×
    IsSystemOn diagram (map literal_of (decisions_of left.book.present)) system_text None picture

-- Why no system is drawn: there is no page, or the text is no system.
abbrev pub IsSystemUndrawnAfter : NamedDiagram → NamedGame → Context → (system_text script : List ℕ) → Fault → Type 0
IsSystemUndrawnAfter diagram game context system_text script fault =
    IsUnleft diagram game context script fault ⊎ IsSystemFault diagram.names system_text fault

-- ---- traces

-- the line `trace` for the vertex that this word names
abbrev pub tracing_line : (word : List ℕ) → List ℕ
tracing_line word = codes "trace " ++ word

-- the command asks for the trace of the vertex at this place
abbrev pub AsksTrace : Option Behaviour → Scene → commands.Command → ℕ → Type 0
AsksTrace behaviour scene (commands.Looks look) vertex =
    topic_of behaviour scene look ≡ Ok (OfVertex vertex_looks.Trace vertex)
AsksTrace behaviour scene command vertex = ⊥

-- so does the request, as it is meant
abbrev pub RequestAsksTrace : Called → Request → ℕ → Type 0
RequestAsksTrace called request vertex =
    AsksTrace called.behaviour called.scene (meant called.callings called.scene.names request).command vertex

-- and so does the line
abbrev pub LineAsksTrace : Called → (line : List ℕ) → ℕ → Type 0
LineAsksTrace called line vertex =
    (request : Request) × ((said line ≡ Ok (Some request)) × RequestAsksTrace called request vertex)

-- the path of the trace of a page's verdict at the vertex, if the game was made of a system
abbrev pub FindsTrail : Option Behaviour → Page → ℕ → Trail → Type 0
FindsTrail None page vertex trail = ⊥
FindsTrail (Some behaviour) page vertex trail = FindsPath page behaviour answer_limits vertex (Some trail)

-- The line asks for the trace of a vertex. On the page with these decisions and tables the system that a text spells is
-- drawn, with the marks of the path of this trace.
pub record IsTracedOn (called : Called) (diagram : NamedDiagram) (decisions : List Decision) (hopeful dual : List ℕ)
    (system_text line picture : List ℕ) : Type 0 where
  pub vertex : ℕ
  pub asked : LineAsksTrace called line vertex
  pub trail : Trail
  pub found : FindsTrail called.behaviour (page_in called.scene decisions hopeful dual) vertex trail
  pub drawn : IsSystemOn diagram (map literal_of decisions) system_text (Some trail) picture

-- On the page that the script leaves the system that a text spells is drawn, with the marks of the trace for which a
-- line `trace` asks there.
abbrev pub IsTracedAfter : NamedDiagram → NamedGame → Context → (system_text script word : List ℕ) → Ending →
    (picture : List ℕ) → Type 0
IsTracedAfter diagram game context system_text script word ending picture =
    (left : Between) × LeavesBook diagram game context script ending left ×
    IsTracedOn (called_in game diagram context) diagram (decisions_of left.book.present)
    (table_left game left Hopeful) (table_left game left Dual) system_text (tracing_line word) picture
