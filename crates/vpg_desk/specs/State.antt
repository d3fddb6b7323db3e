-- The state of a desk: a game, a diagram and a book that one of its histories leaves.
use Rattle.std.specs.Prelude.{◌≡◌, ℕ, Bool, List}
use Rattle.vpg_diagram.specs.DiagramText.{NamedDiagram, IsNamedDiagram}
use Rattle.vpg_diagram.specs.FeatureDiagram.{feature_count}
use Rattle.vpg_game.specs.Game.{NamedGame, IsGame, IsAtLimit, graph_of}
use Rattle.vpg_desk.specs.Book.{Book, Call, Reply, opened, IsReply, Step}
use Rattle.vpg_desk.specs.Desk.{family_of}
use Rattle.vpg_desk.specs.History.{Event, IsLegal, IsBeforeLast, book_after, page_after}
use Rattle.vpg_desk.specs.Lawful.{IsLawful, AllHandIn}
use Rattle.vpg_desk.specs.Setting.{Setting, IsSetting}

-- a desk as callers see it
pub record DeskState : Type 0 where
  pub game : NamedGame
  pub diagram : NamedDiagram
  pub book : Book

-- the game and the diagram as the laws see them
abbrev pub setting_between : NamedGame → NamedDiagram → Setting
setting_between game diagram = record { game = graph_of game; lines = diagram.lines }

-- game and diagram of a desk as the laws see them
abbrev pub setting_of : DeskState → Setting
setting_of state = setting_between state.game state.diagram

-- a desk can be opened with this game and diagram
pub record IsOpened (game : NamedGame) (diagram : NamedDiagram) : Type 0 where
  pub is_setting : IsSetting (setting_between game diagram)
  pub is_game : IsGame game
  pub is_named : IsNamedDiagram diagram
  pub features : game.features ≡ feature_count diagram.lines
  pub not_at_limit : ¬ IsAtLimit game

-- a legal history with lawful harvests only leaves this book
pub record IsHistoryOf (setting : Setting) (book : Book) (history : List Event) : Type 0 where
  pub legal : IsLegal (family_of setting) history
  pub lawful : AllHandIn (IsLawful (family_of setting)) history
  pub leaves : book_after (family_of setting) opened history ≡ book

-- the book is left by one of the setting's histories
abbrev pub IsReached : Setting → Book → Type 0
IsReached setting book = (history : List Event) × IsHistoryOf setting book history

-- ---- one call

-- the reply is the one that the desk's book gives to this call
abbrev pub Replies : DeskState → Call → Reply → Type 0
Replies state call reply = IsReply (family_of (setting_of state)) state.book call reply

-- the call is one step of the desk's book; game and diagram stay
pub record IsStep (old : DeskState) (session : ℕ) (call : Call) (reply : Reply) (new : DeskState) : Type 0 where
  pub step : Step (family_of (setting_of old)) old.book session call reply new.book
  pub game : new.game ≡ old.game
  pub diagram : new.diagram ≡ old.diagram

-- the new page is the one just before the last event of any history of the old book that gave a token of this serial
abbrev pub Restores : (ℕ → Reply → Bool) → DeskState → ℕ → DeskState → Type 0
Restores gives old serial new = (history : List Event) → IsHistoryOf (setting_of old) old.book history →
    (before : List Event) ×
    (IsBeforeLast (gives serial) before history × (new.book.present ≡ page_after (family_of (setting_of old)) before))
