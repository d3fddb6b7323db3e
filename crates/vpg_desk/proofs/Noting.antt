-- Noting that the present page is settled.
use Rattle.std.proofs.Common.{◌≡◌, Option, None, Some, true, false, true≢false, refl, sym, ap, ◌∙◌}
use Rattle.std.proofs.lemmas.Bool.{false≢true}
use Rattle.std.specs.Prelude.{IsNone, is_some}
use Rattle.vpg_trail.specs.Page.{Which, Hopeful, Dual}
use Rattle.vpg_desk.specs.Book.{IsSettledPage, Settled, IsSettled}
use Rattle.vpg_desk.specs.Desk.{family_of}
use Rattle.vpg_desk.specs.DeskFields.{setting_in, IsDesk}
use Rattle.vpg_desk.specs.State.{DeskState, Replies, setting_of}
use Rattle.vpg_desk.specs.declared.desk.Desk.TheInside.{Inside}
use Rattle.vpg_desk.proofs.Answering.{IsSettledTable, settled_page}

-- the desk with that note
pub noted_desk : (d : Inside) → IsDesk d → IsSettledPage (family_of (setting_in d)) d.trail.entries → IsDesk (record d { is_noted = true })
noted_desk d i page = record {
  opened = i.opened;
  reached = i.reached;
  games = i.games;
  noted = record { present = λ _. page; past = i.noted.past; future = i.noted.future };
  vertices = i.vertices;
  past_fits = i.past_fits;
  future_fits = i.future_fits;
  past_below = i.past_below;
  future_below = i.future_below;
}

module _ (state : DeskState) where
  -- both tables are settled
  pub by_both : IsSettledTable state Hopeful → IsSettledTable state Dual → IsSettledPage (family_of (setting_of state)) state.book.present
  by_both hopeful dual Hopeful = hopeful
  by_both hopeful dual Dual = dual

  pub says_settled : IsSettledPage (family_of (setting_of state)) state.book.present → Replies state Settled (IsSettled true)
  says_settled page = settled_page state true ((λ _. page), (λ _. refl))

  -- one table is not
  pub says_not : (which : Which) → ¬ (IsSettledTable state which) → Replies state Settled (IsSettled false)
  says_not which unlike = settled_page state false ((λ t. absurd (false≢true t)), (λ page. absurd (unlike (page which))))

-- ---- an option that has a value, or none

pub none_of : {X : Type 0} (o : Option X) → ((x : X) → o ≡ Some x → ⊥) → IsNone o
none_of None never = refl
none_of (Some x) never = absurd (never x refl)

pub not_none : {X : Type 0} (o : Option X) (x : X) → o ≡ Some x → IsNone o → ⊥
not_none o x is none = true≢false (sym (ap is_some is) ∙ none)
