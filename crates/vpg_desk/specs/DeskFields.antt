-- A desk by its fields.
use Rattle.std.specs.Arc.{arc_value}
use Rattle.std.specs.Prelude.{◌≡◌, length}
use Rattle.vpg_measure.specs.Games.{ArePageGames}
use Rattle.vpg_game.specs.Game.{graph_of}
use Rattle.vpg_trail.specs.Page.{choices_of}
use Rattle.vpg_desk.specs.Book.{Book, IsSettledPage}
use Rattle.vpg_desk.specs.Cuts.{cut_book, cuts_of, notes_of, SuffixesBelow}
use Rattle.vpg_desk.specs.Desk.{family_of}
use Rattle.vpg_desk.specs.Notes.{Notes, NotesHold}
use Rattle.vpg_desk.specs.Setting.{Setting}
use Rattle.vpg_desk.specs.State.{DeskState, setting_between, IsOpened, IsReached}
use Rattle.vpg_desk.specs.Trail.{book_of, FitOver}
use Rattle.vpg_desk.specs.declared.desk.Desk.TheInside.{Inside}

abbrev pub setting_in : Inside → Setting
setting_in d = setting_between (arc_value d.game) (arc_value d.diagram)

abbrev pub book_in : Inside → Book
book_in d = book_of (cut_book d.past.items d.trail.entries d.future.items d.changes d.tokens)

abbrev pub notes_in : Inside → Notes
notes_in d = record { present = d.is_noted; past = notes_of d.past.items; future = notes_of d.future.items }

abbrev pub desk_of : Inside → DeskState
desk_of d = record { game = arc_value d.game; diagram = arc_value d.diagram; book = book_in d }

-- the invariant of every desk
pub record IsDesk (d : Inside) : Type 0 where
  pub opened : IsOpened (arc_value d.game) (arc_value d.diagram)
  -- one of its histories leaves its book
  pub reached : IsReached (setting_in d) (book_in d)
  -- the games kept with the trail
  pub games : ArePageGames (arc_value d.game) (arc_value d.diagram) (choices_of d.trail.entries) (arc_value d.games)
  -- each page, present, past or future, that is known to be settled is so
  pub noted : NotesHold (IsSettledPage (family_of (setting_in d))) (notes_in d) (book_in d)
  -- the trail is over the game's vertices, and each cut fits over the nearer page
  pub vertices : d.trail.vertices ≡ length (graph_of (arc_value d.game))
  pub past_fits : FitOver d.trail.entries (cuts_of d.past.items)
  pub future_fits : FitOver d.trail.entries (cuts_of d.future.items)
  pub past_below : SuffixesBelow d.trail.vertices d.past.items
  pub future_below : SuffixesBelow d.trail.vertices d.future.items
