-- What is published of an office's log.
use Rattle.std.proofs.Common.{◌≡◌, ℕ, ◌<◌, Bool, List, [], ◌∷◌, ◌++◌, length, take, refl, sym, ap, ◌∙◌, subst, arith, ⊎_elim}
use Rattle.std.proofs.Math.Seq.{take-append_seam}
use Rattle.std.proofs.lemmas.List.{length-map}
use mathlib.Core.Option.{some, some-ne-none}
use lib.ListN.{get_elem?}
use mathlib.Core.List.{IsPrefix}
use Rattle.vpg_diagram.specs.DiagramText.{NamedDiagram}
use Rattle.vpg_game.specs.Game.{NamedGame, graph_of, unnamed}
use Rattle.vpg_sides.specs.declared.verdict.Verdict.{Verdict as Said}
use Rattle.boxcar.specs.Table.{Shelves}
use Rattle.vpg_desk.specs.Book.{Family, Book, Settled, IsSettled, Verdict, VerdictIs, opened, IsReply}
use Rattle.vpg_desk.specs.Desk.{family_of}
use Rattle.vpg_desk.specs.History.{Event, book_after, page_after}
use Rattle.vpg_desk.specs.Setting.{IsSetting}
use Rattle.vpg_desk.specs.State.{DeskState, Replies, setting_between, setting_of}
use Rattle.vpg_desk.proofs.Places.{at_below}
use Rattle.vpg_desk.proofs.Whole.{reply_means}
use Rattle.vpg_office.specs.Beginnings.{from_empty}
use Rattle.vpg_office.specs.Fronts.{IsHistory, family_between}
use Rattle.vpg_office.specs.Locked.{IsLog}
use Rattle.vpg_office.specs.Sheets.{AreSaid, EachMeans, IsSheetOf}
use Rattle.vpg_office.specs.declared.chronicle.Chronicle.{Chronicle}
use Rattle.vpg_office.proofs.Calling.{log_history}
use Rattle.vpg_office.proofs.Places.{at_end}
use Rattle.vpg_office.proofs.Stories.{history_take}

pub prefix_none : (f g : List Event) → f ≡ [] → IsPrefix f g
prefix_none f g none = subst (λ (l : List Event). IsPrefix l g) (sym none) (from_empty g)

-- a beginning of a history is one
pub history_begins : (family : Family) (f log : List Event) → IsPrefix f log → IsHistory family log → IsHistory family f
history_begins family f log p h =
    subst (IsHistory family) (ap (take (length f)) (sym p.1) ∙ take-append_seam f p.0) (history_take family (length f) log h)

pub shown_history : {row : Shelves} {game : NamedGame} {diagram : NamedDiagram} {limit : ℕ} {chronicle : Chronicle} {newest : List Event} {desk : DeskState} {room total left : ℕ} {shown : List Event} →
    IsLog row game diagram limit chronicle newest desk room total left shown → IsHistory (family_between game diagram) shown
shown_history {row} {game} {diagram} {limit} {chronicle} {newest} {desk} {room} {total} {left} {shown} i = history_begins (family_between game diagram) shown newest i.published (log_history i)

-- ---- the sheet of a desk

-- what the book replies of a vertex means what it should
all_mean : (game : NamedGame) (diagram : NamedDiagram) (events : List Event) (verdicts : List Said) → IsSetting (setting_between game diagram) → IsHistory (family_between game diagram) events → length verdicts ≡ length game.vertices →
    AreSaid (family_between game diagram) (book_after (family_between game diagram) opened events) verdicts → EachMeans (setting_between game diagram) (page_after (family_between game diagram) events) verdicts
all_mean game diagram events verdicts is_setting history size each v said at =
    let inside : v < length (graph_of game) = omega (arith, at_below verdicts v said at, size, length-map game.vertices unnamed) in
    reply_means (setting_between game diagram) events is_setting history.legal history.lawful v inside said.hopeless said.sure (each v said at)

pub sheet_is : (game : NamedGame) (diagram : NamedDiagram) (state : DeskState) (events : List Event) (settled : Bool) (verdicts : List Said) → IsSetting (setting_between game diagram) → state.game ≡ game → state.diagram ≡ diagram →
    state.book ≡ book_after (family_between game diagram) opened events → IsHistory (family_between game diagram) events → Replies state Settled (IsSettled settled) → length verdicts ≡ length state.game.vertices → AreSaid (family_of (setting_of state)) state.book verdicts →
    IsSheetOf game diagram events (length events) settled verdicts
sheet_is game diagram state events settled verdicts is_setting g d b history replies size each = record {
  history = history;
  calls = refl;
  is_settled = coe 0 1 (k. IsReply (family_between (g k) (d k)) (b k) Settled (IsSettled settled)) replies;
  size = sized;
  each = said;
  means = all_mean game diagram events verdicts is_setting history sized said;
}
  where
    sized : length verdicts ≡ length game.vertices
    sized = size ∙ ap (λ (x : NamedGame). length x.vertices) g

    said : AreSaid (family_between game diagram) (book_after (family_between game diagram) opened events) verdicts
    said = coe 0 1 (k. AreSaid (family_between (g k) (d k)) (b k) verdicts) each

-- ---- verdicts, one after another

pub none_said : (family : Family) (book : Book) (said : List Said) → said ≡ [] → AreSaid family book said
none_said family book said none = subst (AreSaid family book) (sym none) (λ v one at. absurd (some-ne-none one (sym at)))

-- one more is said
pub said_more : (family : Family) (book : Book) (said : List Said) (one : Said) (v : ℕ) → length said ≡ v → AreSaid family book said → IsReply family book (Verdict v) (VerdictIs one.hopeless one.sure) → AreSaid family book (said ++ one ∷ [])
said_more family book said one v here all is i it at = ⊎_elim
    (λ (was : get_elem? said i ≡ some it). all i it was)
    (λ (last : (i ≡ length said) × (one ≡ it)). coe 0 1 (k. IsReply family book (Verdict ((sym (last.0 ∙ here)) k)) (VerdictIs ((last.1) k).hopeless ((last.1) k).sure)) is)
    (at_end said one i it at)
