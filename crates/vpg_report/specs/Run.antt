-- How a run of a script changes the book of an office's desk and what the engine holds, and what it writes.
use Rattle.std.specs.Prelude.{◌≡◌, ℕ, ◌+◌, Option, List, [], ◌++◌, length}
use Rattle.vpg_desk.specs.History.{Event, IsLegalFrom, book_after}
use Rattle.vpg_desk.specs.Desk.{family_of}
use Rattle.vpg_desk.specs.State.{IsHistoryOf}
use Rattle.vpg_engine.specs.Engine.{EngineState}
use Rattle.vpg_engine.specs.Held.{Held, nothing_held}
use Rattle.vpg_engine.specs.Made.{AreMadeBy}
use Rattle.vpg_engine.specs.Line.{Between, begun}
use Rattle.vpg_engine.specs.Requests.{Serves}
use Rattle.vpg_engine.specs.Setting.{setting_in}
use Rattle.vpg_script.specs.Answer.{Answer}
use Rattle.vpg_script.specs.Output.{Machine, Answered}
use Rattle.vpg_diagram.specs.DiagramText.{NamedDiagram}
use Rattle.vpg_game.specs.Game.{NamedGame}
use Rattle.vpg_checking.specs.Behaviours.{Behaviour}
use Rattle.vpg_family.specs.declared.known.Context.{Context}
use Rattle.vpg_script.specs.Calling.{Calling, meant}
use Rattle.vpg_script.specs.Script.{Request}
use Rattle.vpg_texts.specs.Scene.{Scene, scene_of}

-- If the game was made of this, a request makes calls, each with the reply that the book gives at that point. It has
-- this answer, and leaves the book after the calls.
abbrev pub calling : Option Behaviour → Scene → Machine Between
calling behaviour scene old request answer new =
    (calls : List Event) ×
    (Serves behaviour scene old.held old.calls request calls answer new.held ×
    IsLegalFrom (family_of (setting_in scene)) old.book calls
    × (new.book ≡ book_after (family_of (setting_in scene)) old.book calls) × (new.calls ≡ old.calls + length calls))

-- As `calling`, and what is committed or kept was made by at most the line's number of sweeps, each by this many
-- lifters.
abbrev pub answering : Option Behaviour → Scene → ℕ → Machine Between
answering behaviour scene lifters old request answer new =
    (so : calling behaviour scene old request answer new) ×
    AreMadeBy (setting_in scene) lifters request.command so.0 new.held

-- ---- lines that call vertices by their names

-- Each request is answered as the one that it is taken to mean.
abbrev pub as_meant : {S : Type 0} → (Request → Request) → Machine S → Machine S
as_meant meaning serves old request answer new = serves old (meaning request) answer new

-- a scene, the names that lines may give its vertices, and the system that its game was made of
pub record Called : Type 0 where
  pub scene : Scene
  pub callings : List Calling
  pub behaviour : Option Behaviour

-- the scene of a game and a diagram in a context, with its names at the ends of lines
abbrev pub called_in : NamedGame → NamedDiagram → Context → Called
called_in game diagram context =
    record {
      scene = scene_of context.labels.names game diagram;
      callings = context.callings;
      behaviour = context.behaviour;
    }

-- that of an engine
abbrev pub called_by : EngineState → Context → Called
called_by state context = called_in state.client.desk.game state.client.desk.diagram context

-- A line is answered as if the identifier of each vertex stood in place of its name.
abbrev pub answering_called : Called → ℕ → Machine Between
answering_called called lifters =
    as_meant (meant called.callings called.scene.names) (answering called.behaviour called.scene lifters)

-- ---- histories

-- the calls so far, and what the engine holds
pub record Asked : Type 0 where
  pub calls : List Event
  pub held : Held

abbrev pub unasked : Asked
unasked = record { calls = []; held = nothing_held }

-- Each request adds its calls to those before; a full log takes no more.
abbrev pub asking : Option Behaviour → Scene → Machine Asked
asking behaviour scene old request answer new =
    (calls : List Event) ×
    (Serves behaviour scene old.held (length old.calls) request calls answer new.held ×
    (new.calls ≡ old.calls ++ calls))

-- The answers to lines without a fault, their tones and texts, are those to the calls of a legal history, with lawful
-- harvests only. These are exactly the calls of these lines in their order, under any meaning of the lines, and they
-- leave the book.
abbrev pub AnswersAreHistories : Type 0
AnswersAreHistories =
    (meaning : Request → Request) (behaviour : Option Behaviour) (scene : Scene) (lifters : ℕ)
    (lines : List (List ℕ)) (answers : List Answer) (new : Between) →
    Answered (as_meant meaning (answering behaviour scene lifters)) begun lines answers new →
    (history : List Event) ×
    (IsHistoryOf (setting_in scene) new.book history ×
    Answered (as_meant meaning (asking behaviour scene)) unasked lines answers
    (record { calls = history; held = new.held }))
