-- The meaning of a run's traces for the system, if its game was made of a system and requirements. Featured transition
-- systems after Classen et al. 2010; traces and their marks are this project's own.
use Rattle.std.specs.Prelude.{◌≡◌, ◌⊎◌, ℕ, ◌<◌, Bool, true, false, Option, Some, None, List, ◌++◌, Contains, length, slice_index}
use Rattle.vpg_guards.specs.declared.tri.Tri.{Tri}
use Rattle.vpg_guards.specs.declared.tri.Tri.TheVariants.{Unknown}
use Rattle.vpg_guards.specs.Formula.{truth}
use Rattle.vpg_guards.specs.Known.{kleene}
use Rattle.vpg_sides.specs.declared.which.Which.{Which}
use Rattle.vpg_diagram.specs.DiagramText.{NamedDiagram}
use Rattle.vpg_game.specs.Game.{NamedGame}
use Rattle.vpg_hope.specs.Games.{HasEdge}
use Rattle.vpg_hope.specs.Hope.{product_game}
use Rattle.vpg_partial.specs.KnownLaws.{IsRemaining}
use Rattle.vpg_partial.specs.TableLaws.{IsKnownTable}
use Rattle.vpg_trail.specs.Page.{Entry, choices_of}
use Rattle.vpg_system.specs.SystemText.{Transition, NamedSystem}
use Rattle.vpg_requirement.specs.Systems.{product_system}
use Rattle.vpg_parts.specs.declared.part.Part.{Part}
use Rattle.vpg_parts.specs.Parts.{resolved_part}
use Rattle.vpg_model.specs.Departures.{Departure}
use Rattle.vpg_model.specs.Pairs.{pair_at}
use Rattle.vpg_model.specs.Sources.{system_of, transition_in}
use Rattle.vpg_checking.specs.Behaviours.{Behaviour}
use Rattle.vpg_trace.specs.declared.taking.Taken.{Taken}
use Rattle.vpg_trace.specs.declared.walking.Visit.{Visit}
use Rattle.vpg_trace.specs.Answering.{head_line, neither_line, unsettled_line}
use Rattle.vpg_trace.specs.Taking.{IsStep, departure_at}
use Rattle.vpg_trace.specs.Texts.{Family, family_of, step_to, trace_text}
use Rattle.vpg_trace.specs.Walks.{visit_at, visit_before}
use Rattle.vpg_script.specs.declared.look.VertexLook.TheVariants as vertex_looks
use Rattle.vpg_script.specs.Script as script
use Rattle.vpg_script.specs.Script.{Request}
use Rattle.vpg_script.specs.Answer.{Answer, IsDone}
use Rattle.vpg_script.specs.Output.{Machine, Answered}
use Rattle.vpg_texts.specs.Labels.{beside, label_of}
use Rattle.vpg_texts.specs.Scene.{Scene, scene_of}
use Rattle.vpg_family.specs.Made.{IsMadeOf}
use Rattle.vpg_engine.specs.Answers.{vertex_of}
use Rattle.vpg_engine.specs.Line.{Between, begun}
use Rattle.vpg_report.specs.Run.{answering, as_meant}
use Rattle.vpg_report.specs.Winners.{IsRefusal}

-- ---- steps

-- the transition of a reported step, with the state that it leaves
abbrev pub transition_of : List (List Departure) → Taken → Transition
transition_of states taken = record {
  source = taken.state;
  action = (departure_at states taken).action;
  guard = (departure_at states taken).guard;
  target = (departure_at states taken).target;
}

-- The transition is one of the system. If it has no mark, the system of each product that is left on the page has its
-- step. If it is marked as depending, its guard is open under what is known.
pub record IsMarkedRight (scene : Scene) (page : List Entry) (system : NamedSystem) (known : List Tri) (t : Transition)
    (depends : Bool) : Type 0 where
  pub of_system : Contains system.transitions t
  pub unmarked : depends ≡ false → (set : List Bool) → IsRemaining scene.lines (choices_of page) set →
      Contains (product_system (truth set) (system_of system)).steps (transition_in t).step
  pub marked : depends ≡ true → kleene known t.guard ≡ Unknown

-- The pair of a state and a part is at this state, or at `true` or `false`, which all states share.
abbrev pub IsAt : ℕ → ℕ × ℕ → Type 0
IsAt s pair = (pair.0 ≡ s) ⊎ ((pair ≡ (0, 0)) ⊎ (pair ≡ (0, 1)))

-- a step from the state of the first pair to that of the second one, with the right mark
pub record IsStepBetween (scene : Scene) (page : List Entry) (system : NamedSystem) (known : List Tri)
    (states : List (List Departure)) (from to : ℕ × ℕ) (taken : Taken) : Type 0 where
  pub leaves : taken.state ≡ from.0
  pub leads : IsAt (departure_at states taken).target to
  pub right : IsMarkedRight scene page system known (transition_of states taken) taken.depends

-- ---- moves

-- The part asks for no step: it is neither a box nor a diamond.
abbrev pub AsksForNoStep : Part → Type 0
AsksForNoStep part = (x a : ℕ) → IsStep part x a → ⊥

-- no product that is left on the page has the move in its game
abbrev pub NoneHasMove : Scene → List Entry → ℕ → ℕ → Type 0
NoneHasMove scene page v w = (set : List Bool) → IsRemaining scene.lines (choices_of page) set →
    HasEdge (product_game (truth set) scene.game) v w → ⊥

-- The move between the vertices is reported by this step. If there is no step, the move is one within a requirement,
-- which stays in the state; or no product that is left has the move.
abbrev pub IsMoveReported : Scene → List Entry → NamedSystem → Family → ℕ → ℕ → Option Taken → Type 0
IsMoveReported scene page system family v w (Some taken) = IsStepBetween scene page system family.known family.states
    (pair_at family.pairs v) (pair_at family.pairs w) taken
IsMoveReported scene page system family v w None =
    (AsksForNoStep (resolved_part family.parts (pair_at family.pairs v).1)
    × IsAt (pair_at family.pairs v).0 (pair_at family.pairs w)) ⊎ NoneHasMove scene page v w

-- the visit of this number comes from an earlier one, by a move that its step reports
pub record IsVisitReported (scene : Scene) (page : List Entry) (system : NamedSystem) (family : Family)
    (visits : List Visit) (i : ℕ) : Type 0 where
  pub from : ℕ
  pub earlier : from < i
  pub before : visit_before visits i ≡ Some from
  pub move : IsMoveReported scene page system family (visit_at visits from).vertex (visit_at visits i).vertex
      (step_to family visits (visit_at visits i))

-- ---- answers

-- the words of a walk, in names of the system's actions and under what is known
abbrev pub family_in : Scene → NamedSystem → Behaviour → List Tri → Family
family_in scene system behaviour known = family_of scene.names system.actions known behaviour.states behaviour.sets
    behaviour.parts behaviour.pairs

-- The text is a verdict of the vertex, and after it the lines of a walk from there, under what the page makes known.
-- Each visit but the first is reported as it should be.
pub record ReportsWalk (scene : Scene) (system : NamedSystem) (behaviour : Behaviour) (page : List Entry) (vertex : ℕ)
    (text : List ℕ) : Type 0 where
  pub verdict : Which
  pub known : List Tri
  pub is_known : IsKnownTable scene.lines (choices_of page) known
  pub visits : List Visit
  pub is_cut : Bool
  pub text_is : text ≡ head_line verdict (slice_index scene.identifiers vertex) (beside (label_of scene.labels vertex))
      ++ trace_text (family_in scene system behaviour known) visits is_cut
  pub begins : (visit_at visits 0).vertex ≡ vertex
  pub each : (i : ℕ) → 0 < i → i < length visits →
      IsVisitReported scene page system (family_in scene system behaviour known) visits i

-- the vertex is neither hopeless nor sure, or a limit was met
abbrev pub HasNoWalk : Scene → ℕ → List ℕ → Type 0
HasNoWalk scene vertex text =
    (text ≡ neither_line (slice_index scene.identifiers vertex) (beside (label_of scene.labels vertex)))
    ⊎ (text ≡ unsettled_line)

-- the command `trace V`
abbrev pub trace_of : script.Vertex → script.Command
trace_of named = script.Looks (script.OfVertex vertex_looks.Trace named)

-- If the command is `trace V`, its answer reports a walk from the vertex, unless there is none or the line is refused.
abbrev pub ReportsSteps : Scene → NamedSystem → Behaviour → List Entry → script.Command → Answer → Type 0
ReportsSteps scene system behaviour page command answer =
    (named : script.Vertex) → command ≡ trace_of named → IsRefusal answer ⊎
    ((vertex : ℕ) × (vertex_of scene named ≡ Some vertex) ×
    IsDone (λ text. HasNoWalk scene vertex text ⊎ ReportsWalk scene system behaviour page vertex text) answer)

-- Each request is answered as by a run, and traces report steps of the system on the page at that point.
abbrev pub tracing : Behaviour → Scene → ℕ → NamedSystem → Machine Between
tracing behaviour scene lifters system old request answer new =
    answering (Some behaviour) scene lifters old request answer new ×
    ReportsSteps scene system behaviour old.book.present request.command answer

-- A run on the game of a system and requirements answers `trace V` by steps of this system, under any meaning of the
-- lines, and with any names of vertices. A step that is not marked is one of each product that is left on the page at
-- that point.
abbrev pub TracedStepsAreThere : Type 0
TracedStepsAreThere =
    (meaning : Request → Request) (behaviour : Behaviour) (labels : List (List ℕ)) (game : NamedGame)
    (diagram : NamedDiagram) (system_text : List ℕ) (made : IsMadeOf diagram system_text game behaviour) (lifters : ℕ)
    (lines : List (List ℕ)) (answers : List Answer) (new : Between) →
    Answered (as_meant meaning (answering (Some behaviour) (scene_of labels game diagram) lifters)) begun lines answers
    new →
    Answered (as_meant meaning (tracing behaviour (scene_of labels game diagram) lifters made.system)) begun lines
    answers new
