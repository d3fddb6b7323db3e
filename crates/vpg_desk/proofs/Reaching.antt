-- What every book that is reached keeps.
use Rattle.std.proofs.Common.{◌≡◌, ℕ, ◌≤◌, List, [], ◌∷◌, ◌++◌, sym, ◌∙◌, ap, subst}
use Rattle.vpg_trail.specs.WellFormed.{IsWellFormed}
use Rattle.vpg_desk.specs.Book.{Book, Call, Reply, Harvest, opened, most_changes, next, IsReply}
use Rattle.vpg_desk.specs.Desk.{family_of}
use Rattle.vpg_desk.specs.Headline.{Tells}
use Rattle.vpg_desk.specs.History.{Event, IsLegal, book_after}
use Rattle.vpg_desk.specs.Lawful.{EachPage, IsLawful, HandsIn, AllHandIn}
use Rattle.vpg_desk.specs.Setting.{Setting, IsSetting}
use Rattle.vpg_desk.specs.State.{IsReached}
use Rattle.vpg_desk.proofs.Tokens.{counts_are_limited}
use Rattle.vpg_desk.proofs.UndoRedo.{one_more_is_legal}
use Rattle.vpg_desk.proofs.WellFormed.{pages_are_well_formed}
use Rattle.vpg_desk.proofs.Whole.{headline}

one_more_hands_in : (P : Harvest → Type 0) (history : List Event) (e : Event) → AllHandIn P history → HandsIn P e.call → AllHandIn P (history ++ e ∷ [])
one_more_hands_in P [] e all h = (h, tt)
one_more_hands_in P (x ∷ history) e all h = (all.0, one_more_hands_in P history e all.1 h)

-- one call more
pub reached_step : (setting : Setting) (book : Book) (session : ℕ) (call : Call) (reply : Reply) → IsReached setting book → IsReply (family_of setting) book call reply → HandsIn (IsLawful (family_of setting)) call →
    IsReached setting (next (family_of setting) book session call reply)
reached_step setting book session call reply r i h = (
  r.0 ++ event ∷ [],
  record {
    legal = more.0;
    lawful = one_more_hands_in (IsLawful (family_of setting)) r.0 event r.1.lawful h;
    leaves = more.1 ∙ ap (λ (b : Book). next (family_of setting) b session call reply) r.1.leaves;
  },
)
  where
    event : Event
    event = record { session = session; call = call; reply = reply }

    more : IsLegal (family_of setting) (r.0 ++ event ∷ []) × (book_after (family_of setting) opened (r.0 ++ event ∷ []) ≡ next (family_of setting) (book_after (family_of setting) opened r.0) session call reply)
    more = one_more_is_legal (family_of setting) r.0 event r.1.legal (subst (λ (b : Book). IsReply (family_of setting) b call reply) (sym r.1.leaves) i)

-- each page of it tells what it means
pub reached_tells : (setting : Setting) (book : Book) → IsSetting setting → IsReached setting book → EachPage (Tells setting) book
reached_tells setting book s r = subst (EachPage (Tells setting)) r.1.leaves (headline setting r.0 s r.1.legal r.1.lawful).pages

pub reached_well_formed : (setting : Setting) (book : Book) → IsReached setting book → EachPage IsWellFormed book
reached_well_formed setting book r = subst (EachPage IsWellFormed) r.1.leaves (pages_are_well_formed (family_of setting) r.0 r.1.legal)

pub reached_limits : (setting : Setting) (book : Book) → IsReached setting book → (book.tokens ≤ book.changes) × (book.changes ≤ most_changes)
reached_limits setting book r = subst (λ (b : Book). (b.tokens ≤ b.changes) × (b.changes ≤ most_changes)) r.1.leaves (counts_are_limited (family_of setting) r.0 r.1.legal)
