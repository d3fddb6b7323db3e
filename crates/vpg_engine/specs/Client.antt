-- The state of an office's client: the desk that it serves, and how many calls it has made. This project's own.
use Rattle.std.specs.Prelude.{◌≡◌, ◌⊎◌, ℕ, ◌+◌, ◌<◌, ◌≤◌, ◌==◌, if◌then◌else◌, List, [], ◌∷◌, length, Option, Some, None, slice_index_or}
use Rattle.vpg_diagram.specs.DiagramText.{NamedDiagram}
use Rattle.vpg_game.specs.Game.{NamedGame}
use Rattle.vpg_desk.specs.Book.{Call, Reply, opened}
use Rattle.vpg_desk.specs.History.{Event, book_after}
use Rattle.vpg_desk.specs.State.{DeskState, IsStep}
use Rattle.vpg_office.specs.Fronts.{family_between}
use Rattle.vpg_office.specs.Token.{Caller}

-- a desk, how many calls stand in its office's log, and whose they are
pub record ClientState : Type 0 where
  pub desk : DeskState
  -- how many calls stand in the log, and how many of them the client's own sessions made
  pub calls : ℕ
  pub own : ℕ
  -- the first label whose session has another number
  pub unseated : Option ℕ

-- ---- a client's sessions; that of label N stands at place N - 1

-- a session of no office
abbrev pub nobody : Caller
nobody = record { number = 0; calls = 0 }

-- the session at this place has this number
abbrev pub IsNumbered : List Caller → ℕ → ℕ → Type 0
IsNumbered sessions place number = (place < length sessions) × ((slice_index_or sessions place nobody).number ≡ number)

-- how many calls of the log are theirs
abbrev pub calls_of : List Caller → ℕ
calls_of [] = 0
calls_of (s ∷ sessions) = s.calls + calls_of sessions

-- the first label, of those from this one on, whose session has another number
abbrev pub unseated_from : ℕ → List Caller → Option ℕ
unseated_from label [] = None
unseated_from label (s ∷ sessions) = if s.number == label then unseated_from (label + 1) sessions else Some label

-- this label, or one before it, has a session of another number
abbrev pub IsBeyond : ℕ → Option ℕ → Type 0
IsBeyond label unseated = (first : ℕ) × ((unseated ≡ Some first) × (first ≤ label))

-- ---- clients

-- a client of a desk that was opened, before its first call
abbrev pub client_of : NamedGame → NamedDiagram → ClientState
client_of game diagram =
    record { desk = record { game = game; diagram = diagram; book = opened }; calls = 0; own = 0; unseated = None }

-- the client with these calls in its log
abbrev pub client_in : NamedGame → NamedDiagram → (own : ℕ) → (unseated : Option ℕ) → List Event → ClientState
client_in game diagram own unseated events =
    record {
      desk = record { game = game; diagram = diagram; book = book_after (family_between game diagram) opened events };
      calls = length events;
      own = own;
      unseated = unseated;
    }

-- the client with these sessions, and with these calls in its log
abbrev pub client_after : NamedGame → NamedDiagram → List Caller → List Event → ClientState
client_after game diagram sessions events =
    client_in game diagram (calls_of sessions) (unseated_from 1 sessions) events

-- The log, with room for `room` calls, had room for this one. The call is one step of the desk under the label, and is
-- counted. A session of the client made it; each stays at its label.
pub record IsLogged (room : ℕ) (old : ClientState) (label : ℕ) (call : Call) (reply : Reply)
    (new : ClientState) : Type 0 where
  pub had_room : old.calls < room
  pub step : IsStep old.desk label call reply new.desk
  pub counted : new.calls ≡ old.calls + 1
  pub own : new.own ≡ old.own + 1
  pub seats : new.unseated ≡ old.unseated

-- the log grew by a call that no session of the client made
pub record HasForeignCall (old new : ClientState) : Type 0 where
  pub more : old.calls + new.own < new.calls + old.own
  pub seats : new.unseated ≡ old.unseated

-- the label, or one before it, has a session of another number, and nothing else changed
pub record IsUnseated (old : ClientState) (label : ℕ) (new : ClientState) : Type 0 where
  pub desk : new.desk ≡ old.desk
  pub calls : new.calls ≡ old.calls
  pub own : new.own ≡ old.own
  pub beyond : IsBeyond label new.unseated

-- a front of the calls that the client knows of
pub record IsFrontOf (client : ClientState) (front : List Event) : Type 0 where
  pub counted : length front ≡ client.calls
  pub leaves : book_after (family_between client.desk.game client.desk.diagram) opened front ≡ client.desk.book

-- The log has more calls than the client knows of. Or it lacks the last of those that the client knows of, as this
-- relation of a log and a front says.
abbrev pub HasUnknownCall : (Lacks : (log front : List Event) → Type 0) → ClientState → (log : List Event) → Type 0
HasUnknownCall Lacks client log =
    (client.calls < length log) ⊎ ((front : List Event) × (IsFrontOf client front × Lacks log front))
