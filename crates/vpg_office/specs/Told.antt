-- Verdicts of a desk's page, and the calls that keep them. This project's own.
use Rattle.std.specs.Arc.{arc_value}
use Rattle.std.specs.Prelude.{◌≡◌, ◌==◌, ℕ, zero, suc, nat_le, Bool, true, false, List, [], ◌∷◌, length, IfSome, ⊤}
use Rattle.vpg_sides.specs.declared.verdict.Verdict.{Verdict as Said}
use Rattle.vpg_trail.specs.Page.{Which, Entry, Decided, Lifted, value_at}
use Rattle.vpg_desk.specs.Book.{Book, Family, Kept, Step}
use Rattle.vpg_desk.specs.Desk.{family_of}
use Rattle.vpg_desk.specs.State.{DeskState, setting_of}
use Rattle.vpg_office.specs.Sheets.{AreSaid}
use Rattle.vpg_office.specs.Story.{call_of, reply_of}
use Rattle.vpg_office.specs.declared.alike.Alike.{Alike}
use Rattle.vpg_office.specs.declared.asked.Answer.{Answer}
use Rattle.vpg_office.specs.declared.asked.SessionCall.{SessionCall}
use Rattle.vpg_office.specs.declared.asked.SessionCall.TheVariants.{Retract, Reset, Undo, Redo}
use Rattle.vpg_office.specs.declared.replay.Told.{Told}

-- the verdict of each vertex
pub record AreVerdictsOf (desk : DeskState) (verdicts : List Said) : Type 0 where
  pub size : length verdicts ≡ length desk.game.vertices
  pub each : AreSaid (family_of (setting_of desk)) desk.book verdicts

-- the desk only appends entries to its page for this call, or leaves it
abbrev pub only_appends : SessionCall → Bool
only_appends (Retract f) = false
only_appends Reset = false
only_appends (Undo serial) = false
only_appends (Redo serial) = false
only_appends _ = true

-- the entry raises a value to the top
abbrev pub raises_to_top : Family → Entry → Bool
raises_to_top family (Decided d) = false
raises_to_top family (Lifted l) = nat_le (family.top l.table) l.new

-- the call, with this answer, leads from one book to the other
abbrev pub Leads : Family → Book → SessionCall → Answer → Book → Type 0
Leads family old asked answer new =
    (session : ℕ) × Step family old session (call_of asked answer) (reply_of family old.present answer) new

-- The same values are the top on both pages. So their verdicts are the same.
abbrev pub AgreeOnTops : Family → List Entry → List Entry → Type 0
AgreeOnTops family one other = (which : Which) (v : ℕ) →
    (value_at which v one == family.top which) ≡ (value_at which v other == family.top which)

-- the first n of the pages agree with this one, or all if they are fewer
abbrev pub NearestAgree : Family → List Entry → ℕ → List Kept → Type 0
NearestAgree family page zero pages = ⊤
NearestAgree family page (suc n) [] = ⊤
NearestAgree family page (suc n) (kept ∷ pages) =
    AgreeOnTops family page kept.page × NearestAgree family page n pages

-- so many of the newest past pages, and of the nearest future pages, agree with the present one
pub record AreAlike (family : Family) (book : Book) (alike : Alike) : Type 0 where
  pub past : NearestAgree family book.present alike.past book.past
  pub future : NearestAgree family book.present alike.future book.future

-- the verdicts are the desk's, and so many pages have them too
abbrev pub AreTold : DeskState → Told → Type 0
AreTold desk told = IfSome told.verdicts (λ verdicts. AreVerdictsOf desk (arc_value verdicts)) ×
    AreAlike (family_of (setting_of desk)) desk.book told.alike
