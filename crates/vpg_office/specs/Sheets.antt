-- The sheets that an office publishes of its log. This project's own.
use Rattle.std.specs.Prelude.{◌≡◌, ℕ, Bool, List, length}
use mathlib.Core.Option.{some}
use lib.ListN.{get_elem?}
use Rattle.vpg_diagram.specs.DiagramText.{NamedDiagram}
use Rattle.vpg_game.specs.Game.{NamedGame}
use Rattle.vpg_trail.specs.Page.{Entry}
use Rattle.vpg_sides.specs.declared.verdict.Verdict.{Verdict as Said}
use Rattle.vpg_desk.specs.Book.{Family, Book, Settled, IsSettled, Verdict, VerdictIs, opened, IsReply}
use Rattle.vpg_desk.specs.Headline.{VerdictMeans}
use Rattle.vpg_desk.specs.History.{Event, book_after, page_after}
use Rattle.vpg_desk.specs.Setting.{Setting}
use Rattle.vpg_desk.specs.State.{setting_between}
use Rattle.vpg_office.specs.Fronts.{IsHistory, family_between}

-- each is the book's reply about its vertex
abbrev pub AreSaid : Family → Book → List Said → Type 0
AreSaid family book verdicts =
    (v : ℕ) (said : Said) → get_elem? verdicts v ≡ some said →
    IsReply family book (Verdict v) (VerdictIs said.hopeless said.sure)

-- each says who wins from its vertex in every product left on the page
abbrev pub EachMeans : Setting → List Entry → List Said → Type 0
EachMeans setting page verdicts =
    (v : ℕ) (said : Said) → get_elem? verdicts v ≡ some said → VerdictMeans setting page v said.hopeless said.sure

-- A sheet of a history has its number of calls, and the book's replies at its end: whether the page is settled, and
-- each vertex's verdict. The verdict says who wins from the vertex.
pub record IsSheetOf (game : NamedGame) (diagram : NamedDiagram) (events : List Event) (at : ℕ) (settled : Bool)
    (verdicts : List Said) : Type 0 where
  pub history : IsHistory (family_between game diagram) events
  pub calls : at ≡ length events
  pub is_settled : IsReply (family_between game diagram)
      (book_after (family_between game diagram) opened events) Settled (IsSettled settled)
  pub size : length verdicts ≡ length game.vertices
  pub each : AreSaid (family_between game diagram) (book_after (family_between game diagram) opened events) verdicts
  pub means : EachMeans (setting_between game diagram) (page_after (family_between game diagram) events) verdicts
