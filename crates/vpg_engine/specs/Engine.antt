-- How the engine serves a request.
use Rattle.std.specs.Prelude.{◌≡◌, ℕ, ◌+◌, ◌<◌, List, [], ⊤, ◌==◌, Bool, true, false, position, Option, Some, None, Result, IfSome}
use Rattle.vpg_diagram.specs.DiagramText.{NamedDiagram}
use Rattle.vpg_game.specs.Game.{NamedGame, IsAtLimit}
use Rattle.vpg_partial.specs.KnownLaws.{HasConflictOf}
use Rattle.vpg_engine.specs.Client.{ClientState, client_of}
use Rattle.vpg_engine.specs.declared.fault.ClientFault.{ClientFault}
use Rattle.vpg_engine.specs.declared.fault.ClientFault.TheVariants.{LogFull, Refused}
use Rattle.vpg_desk.specs.Book.{Call, Reply}
use Rattle.vpg_faults.specs.declared.refusal.Refusal.{Refusal}
use Rattle.vpg_faults.specs.declared.refusal.Refusal.TheVariants.{Conflict as Conflicts, Outdated}
use Rattle.vpg_faults.specs.declared.fault.OpenFault.{OpenFault}
use Rattle.vpg_faults.specs.declared.fault.OpenFault.TheVariants.{AtLimit, Conflict, Memory}
use Rattle.vpg_engine.specs.Answers.{Own, Rest, first_call, Continues, full_log, refusal_text}
use Rattle.vpg_engine.specs.Held.{Held, nothing_held}
use Rattle.vpg_engine.specs.Line.{Between, beginning}
use Rattle.vpg_engine.specs.Made.{AreMadeBy}
use Rattle.vpg_engine.specs.Requests as requests
use Rattle.vpg_engine.specs.Setting.{setting_in}
use Rattle.vpg_checking.specs.Behaviours.{Behaviour}
use Rattle.vpg_texts.specs.Scene.{Scene, scene_of}
use Rattle.vpg_script.specs.Answer.{Answer, IsGiven, refused}
use Rattle.vpg_script.specs.declared.tone.Tone.{Tone}
use Rattle.vpg_script.specs.Script as script
use Rattle.vpg_script.specs.Script.{Request}

-- the client of an office, and what is held with it
pub record EngineState : Type 0 where
  pub client : ClientState
  pub held : Held

-- the scene of an engine, with these names of vertices
abbrev pub scene_with : (labels : List (List ℕ)) → EngineState → Scene
scene_with labels state = scene_of labels state.client.desk.game state.client.desk.diagram

-- without names
abbrev pub scene_at : EngineState → Scene
scene_at state = scene_with [] state

abbrev pub between_of : EngineState → Between
between_of state = record { book = state.client.desk.book; calls = state.client.calls; held = state.held }

-- an engine whose office was opened
abbrev pub engine_of : NamedGame → NamedDiagram → EngineState
engine_of game diagram = record { client = client_of game diagram; held = nothing_held }

-- The line begins with this call and has this rest after its reply, or is refused without a call. An answer to it is
-- given: its text is appended, and its tone returned. Game and diagram stay.
pub record AnswersBy (old : EngineState) (label : ℕ) (first : Result Call Own) (P : Reply → Rest) (tone : Tone)
    (before after : List ℕ) (new : EngineState) : Type 0 where
  pub answer : Answer
  pub answers : beginning (scene_at old) label first P (between_of old) answer (between_of new)
  pub given : IsGiven answer tone before after
  pub game : new.client.desk.game ≡ old.client.desk.game
  pub diagram : new.client.desk.diagram ≡ old.client.desk.diagram

-- The engine's answer to the request is given, with these names of vertices: its calls are made, its text is appended,
-- and its tone returned. Game and diagram stay.
pub record AnswersWith (labels : List (List ℕ)) (old : EngineState) (request : Request) (tone : Tone)
    (before after : List ℕ) (new : EngineState) : Type 0 where
  pub by : AnswersBy old request.label (first_call (scene_with labels old) old.held request.command)
      (Continues (scene_with labels old) old.held (old.client.calls + 1) request.label request.command) tone before
      after new

-- As `AnswersWith`, also to a look at the page, if the game was made of this.
abbrev pub AnswersIn : (labels : List (List ℕ)) → Option Behaviour → EngineState → Request → Tone →
    (before after : List ℕ) → EngineState → Type 0
AnswersIn labels behaviour old request tone before after new =
    AnswersBy old request.label (requests.first_call behaviour (scene_with labels old) old.held request.command)
    (requests.Continues behaviour (scene_with labels old) old.held (old.client.calls + 1) request.label
    request.command) tone before after new

-- As `AnswersWith`, and what is committed or kept was made by sweeps of this many lifters.
pub record SweepsWith (labels : List (List ℕ)) (old : EngineState) (lifters : ℕ) (request : Request) (tone : Tone)
    (before after : List ℕ) (new : EngineState) : Type 0 where
  pub answers : AnswersWith labels old request tone before after new
  pub made : AreMadeBy (setting_in (scene_at old)) lifters request.command answers.by.answers.0 new.held

-- As `AnswersWith`, with no names of vertices.
abbrev pub AnswersTo : EngineState → Request → Tone → (before after : List ℕ) → EngineState → Type 0
AnswersTo old request tone before after new = AnswersWith [] old request tone before after new

-- As `AnswersTo`, and what is committed or kept was made by sweeps of this many lifters.
abbrev pub SweepsTo : EngineState → (lifters : ℕ) → Request → Tone → (before after : List ℕ) → EngineState → Type 0
SweepsTo old lifters request tone before after new = SweepsWith [] old lifters request tone before after new

-- the command that decides the feature of a name in or out
abbrev pub deciding : Bool → List ℕ → script.Command
deciding true name = script.Select name
deciding false name = script.Exclude name

-- the place of the first serial that is the one meant
abbrev pub IsPlaceOf : Option ℕ → List ℕ → Option ℕ → Type 0
IsPlaceOf meant serials None = meant ≡ None
IsPlaceOf meant serials (Some place) = (s : ℕ) × ((meant ≡ Some s) × (position (λ n. n == s) serials ≡ Some place))

-- The answer to a refused call is given; out of memory has none.
abbrev pub TellsRefusal : List (List ℕ) → Option Refusal → Tone → (before after : List ℕ) → Type 0
TellsRefusal names None told before after = ⊥
TellsRefusal names (Some refusal) told before after = IsGiven (refused (refusal_text names refusal)) told before after

-- The answer to a call that the client doesn't make is given: that the log is full, or the desk's refusal. A stray and
-- out of memory have none.
abbrev pub TellsFault : {F : Type 0} → List (List ℕ) → (F → Option Refusal) → ClientFault F → Tone →
    (before after : List ℕ) → Type 0
TellsFault names refusal LogFull told before after = IsGiven full_log told before after
TellsFault names refusal (Refused fault) told before after = TellsRefusal names (refusal fault) told before after
TellsFault names refusal _ told before after = ⊥

-- the feature that a refusal names, if it names one, is one of so many
abbrev pub IsNamedWithin : ℕ → Refusal → Type 0
IsNamedWithin count (Conflicts f) = f < count
IsNamedWithin count (Outdated f) = f < count
IsNamedWithin count _ = ⊤

-- the feature that a fault's refusal names, if it names one, is one of so many
abbrev pub IsFaultWithin : {F : Type 0} → ℕ → (F → Option Refusal) → ClientFault F → Type 0
IsFaultWithin count refusal (Refused fault) = IfSome (refusal fault) (IsNamedWithin count)
IsFaultWithin count refusal _ = ⊤

-- why an office isn't opened
abbrev pub IsOpenFault : NamedGame → NamedDiagram → OpenFault → Type 0
IsOpenFault game diagram AtLimit = IsAtLimit game
IsOpenFault game diagram (Conflict f) = (¬ IsAtLimit game) × HasConflictOf diagram.lines [] × (f ≡ 0)
IsOpenFault game diagram Memory = ⊤
