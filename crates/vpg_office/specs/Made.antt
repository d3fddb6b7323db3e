-- How a session's call changes the desk and the log.
use Rattle.std.specs.Prelude.{◌≡◌, ℕ, List, [], ◌∷◌, ◌++◌, length, drop, Option, Some, IfSome}
use Rattle.vpg_diagram.specs.DiagramText.{NamedDiagram}
use Rattle.vpg_game.specs.Game.{NamedGame, graph_of}
use Rattle.vpg_measure.specs.Games.{ArePageGames, GamesView}
use Rattle.vpg_trail.specs.Page.{Decision, Entry, Hopeful, Dual, choices_of, decisions_of, table_of}
use Rattle.vpg_desk.specs.Book.{Family, Book, Call, Reply, Refused, opened}
use Rattle.vpg_faults.specs.declared.refusal.Refusal.{Refusal}
use Rattle.vpg_desk.specs.Desk.{family_of}
use Rattle.vpg_desk.specs.Headline.{Tells}
use Rattle.vpg_desk.specs.History.{Event, book_after}
use Rattle.vpg_desk.specs.Lawful.{HandsIn, IsLawful, PageIsBelow}
use Rattle.vpg_desk.specs.Setting.{IsSetting}
use Rattle.vpg_desk.specs.State.{DeskState, IsReached, IsStep, Replies, setting_between, setting_of}
use Rattle.vpg_office.specs.Faults.{Stops}
use Rattle.vpg_office.specs.Fronts.{IsHistory, calls_by, event, family_between}
use Rattle.vpg_office.specs.Kept.{HasOwn}
use Rattle.vpg_office.specs.Story.{IsNamed, call_of, reply_of}
use Rattle.vpg_office.specs.declared.asked.Answer.{Answer}
use Rattle.vpg_office.specs.declared.asked.Answer.TheVariants.{Spent, Refused as Answered}
use Rattle.vpg_office.specs.declared.asked.SessionCall.{SessionCall}
use Rattle.vpg_office.specs.declared.front.Own.{Own}
use Rattle.vpg_office.specs.declared.fault.Fault.{Fault}
use Rattle.vpg_office.specs.declared.fault.Fault.TheVariants.{LogFull, Doubled, Refused as DeskRefuses, Memory}

-- the desk made the call
pub record IsMade (game : NamedGame) (diagram : NamedDiagram) (desk : DeskState) (session : ℕ) (asked : SessionCall)
    (answer : Answer) (new : DeskState) : Type 0 where
  pub step : IsStep desk session (call_of asked answer)
      (reply_of (family_of (setting_of desk)) desk.book.present answer) new
  pub hands : HandsIn (IsLawful (family_between game diagram)) (call_of asked answer)
  pub named : IsNamed game diagram asked answer

-- the desk spends a token by this call
abbrev pub SpendsToken : DeskState → SessionCall → DeskState → Type 0
SpendsToken old asked new = (game : NamedGame) (diagram : NamedDiagram) (session : ℕ) →
    IsMade game diagram old session asked Spent new

-- the desk refused the call for this reason
pub record IsRefused (game : NamedGame) (diagram : NamedDiagram) (desk : DeskState) (asked : SessionCall)
    (refusal : Refusal) : Type 0 where
  pub told : Replies desk (call_of asked (Answered refusal)) (Refused refusal)
  pub hands : HandsIn (IsLawful (family_between game diagram)) (call_of asked (Answered refusal))
  pub named : IsNamed game diagram asked (Answered refusal)

-- the log goes on with the call, the session's only one since the front
pub record IsEntered (family : Family) (log front : List Event) (session : ℕ) (call : Call) (reply : Reply)
    (new : List Event) : Type 0 where
  pub is : new ≡ log ++ event session call reply ∷ []
  pub none : calls_by session (drop (length front) log) ≡ 0
  pub history : IsHistory family new

-- The front ends with this call of the book. The log before it had the token's front, if the call takes one.
pub record IsLast {L : Type 0} (family : Family) (own : Option (Own L)) (book : Book) (call : Call) (reply : Reply)
    (front : List Event) : Type 0 where
  pub log : List Event
  pub has : IfSome own (HasOwn log)
  pub leaves : book ≡ book_after family opened log
  pub session : ℕ
  pub is : front ≡ log ++ event session call reply ∷ []
  pub history : IsHistory family front

-- The call fails: the log goes on with the desk's refusal, or stays.
abbrev pub Leaves : {L F : Type 0} → NamedGame → NamedDiagram → ℕ → (F → Option Refusal) → List Event → List Event → ℕ →
    SessionCall → List Event → Fault L F → Type 0
Leaves game diagram limit refusal log front session asked new (DeskRefuses fault) =
    (r : Refusal) ×
    ((refusal fault ≡ Some r) ×
    (IsNamed game diagram asked (Answered r) ×
    IsEntered (family_between game diagram) log front session (call_of asked (Answered r)) (Refused r) new))
Leaves {L} {F} game diagram limit refusal log front session asked new (LogFull f) =
    (new ≡ front) ×
    (IsHistory (family_between game diagram) log × Stops {L = L} {F = F} limit front session log (LogFull f))
Leaves {L} {F} game diagram limit refusal log front session asked new (Doubled f) =
    (new ≡ front) ×
    (IsHistory (family_between game diagram) log × Stops {L = L} {F = F} limit front session log (Doubled f))
Leaves {L} {F} game diagram limit refusal log front session asked new Memory =
    (new ≡ front) ×
    (IsHistory (family_between game diagram) log × Stops {L = L} {F = F} limit front session log Memory)

-- a page of the book's present entries, with the games that its decisions leave
pub record IsPage (game : NamedGame) (diagram : NamedDiagram) (book : Book) (entries : List Entry)
    (decisions : List Decision) (hopeful dual : List ℕ) (games : GamesView) : Type 0 where
  pub present : entries ≡ book.present
  pub decided : decisions ≡ decisions_of entries
  pub hopeful_is : hopeful ≡ table_of Hopeful entries (length (graph_of game))
  pub dual_is : dual ≡ table_of Dual entries (length (graph_of game))
  pub are_games : ArePageGames game diagram (choices_of entries) games
  pub below : PageIsBelow (family_between game diagram) entries
  pub tells : Tells (setting_between game diagram) entries
  pub is_setting : IsSetting (setting_between game diagram)
  pub reached : IsReached (setting_between game diagram) book
