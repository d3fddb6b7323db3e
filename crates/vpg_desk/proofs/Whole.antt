-- The headline, for every setting.
use Rattle.std.proofs.Common.{◌≡◌, ◌↔◌, ℕ, ◌<◌, ◌==◌, Bool, Option, Some, None, IsTrue, List, [], ◌∷◌, ◌++◌, length, slice_index, refl, sym, ap, ◌∙◌, subst, eqb-true}
use Rattle.std.specs.List.{AllByRecursion}
use Rattle.std.specs.Bool.{Decides}
use Rattle.vpg_sides.specs.declared.player.Player.{Player}
use Rattle.vpg_diagram.proofs.Lists.{All-front}
use Rattle.vpg_trail.specs.Page.{Which, Hopeful, Dual, Entry, choices_of, AllStand, value_at, table_of}
use Rattle.vpg_trail.proofs.PageLemmas.{table_of-at}
use Rattle.vpg_desk.specs.Book.{Family, Book, Kept, opened, IsSettledPage, Verdict, VerdictIs, Settled, IsSettled, IsReply, Told}
use Rattle.vpg_faults.specs.declared.refusal.Refusal.{Refusal}
use Rattle.vpg_desk.specs.History.{Event, IsLegal, book_after, page_after, undo_of, redo_of}
use Rattle.vpg_desk.specs.Lawful.{EachPage, PageIsBelow, IsMonotone, IsLawful, HandsIn, AllHandIn}
use Rattle.vpg_desk.proofs.UndoRedo.{legal_parts, undo_restores, redo_restores, beginning_is_legal}
use Rattle.vpg_desk.proofs.Below.{pages_are_below, no_page_has_conflict, settled_are_equal}
use Rattle.vpg_desk.specs.Setting.{Setting, IsSetting, HasConflict}
use Rattle.vpg_desk.proofs.Sound.{sound_of}
use Rattle.vpg_measure.specs.TwoGames.{top_for}
use Rattle.vpg_desk.specs.Desk.{family_of}
use Rattle.vpg_desk.specs.Headline.{IsTopAt, NeverWins, VerdictMeans, Tells, HeadlineHolds, verdict_of, settled_of}
use Rattle.vpg_desk.proofs.Family.{family_is_monotone}
use Rattle.vpg_desk.proofs.Told.{page_tells}

all_from : {X : Type 0} (P Q R : X → Type 0) → ((x : X) → P x → Q x → R x) → (xs : List X) → AllByRecursion P xs → AllByRecursion Q xs → AllByRecursion R xs
all_from P Q R h [] p q = tt
all_from P Q R h (x ∷ xs) p q = (h x p.0 q.0, all_from P Q R h xs p.1 q.1)

each_from : (P Q R : List Entry → Type 0) → ((page : List Entry) → P page → Q page → R page) → (book : Book) → EachPage P book → EachPage Q book → EachPage R book
each_from P Q R h book p q = record {
  present = h book.present p.present q.present;
  past = all_from (λ (k : Kept). P k.page) (λ k. Q k.page) (λ k. R k.page) (λ k. h k.page) book.past p.past q.past;
  future = all_from (λ (k : Kept). P k.page) (λ k. Q k.page) (λ k. R k.page) (λ k. h k.page) book.future p.future q.future;
}

cons_append : {X : Type 0} (xs ys : List X) (x : X) → (xs ++ x ∷ []) ++ ys ≡ xs ++ x ∷ ys
cons_append [] ys x = refl
cons_append (z ∷ xs) ys x = ap (λ zs. z ∷ zs) (cons_append xs ys x)

-- a legal history up to one of its events is legal
legal_front : (family : Family) (history front rest : List Event) (e : Event) → IsLegal family history → history ≡ front ++ e ∷ rest → IsLegal family (front ++ e ∷ [])
legal_front family history front rest e legal split = beginning_is_legal family (front ++ e ∷ []) rest (subst (IsLegal family) (split ∙ sym (cons_append front rest e)) legal)

-- the reply of an event is the one that the book gives there
reply_at : (family : Family) (history front rest : List Event) (e : Event) → IsLegal family history → history ≡ front ++ e ∷ rest → IsReply family (book_after family opened front) e.call e.reply
reply_at family history front rest e legal split = (legal_parts family opened front (e ∷ rest) (subst (IsLegal family) split legal)).1.0

refused_none_verdict : (family : Family) (book : Book) (v : ℕ) (hopeless sure : Bool) → IsReply family book (Verdict v) (VerdictIs hopeless sure) →
    (hopeless ≡ (value_at Hopeful v book.present == family.top Hopeful)) × (sure ≡ (value_at Dual v book.present == family.top Dual))
refused_none_verdict family book v hopeless sure i = of i.0 i.1.0 i.1.1
  where
    of : (r : Option Refusal) → r ≡ None → Told family book (Verdict v) (VerdictIs hopeless sure) r →
        (hopeless ≡ (value_at Hopeful v book.present == family.top Hopeful)) × (sure ≡ (value_at Dual v book.present == family.top Dual))
    of None e t = (cc, cc)
    of (Some r) e t = absurd (cc)

settled_tells : (family : Family) (book : Book) (b : Bool) → IsReply family book Settled (IsSettled b) → Decides b (IsSettledPage family book.present)
settled_tells family book b i = of i.0 i.1.0 i.1.1
  where
    same : (a : Bool) → IsSettled b ≡ IsSettled a → Decides a (IsSettledPage family book.present) → Decides b (IsSettledPage family book.present)
    same a e d = let f : b ≡ a = cc in subst (λ (x : Bool). Decides x (IsSettledPage family book.present)) (sym f) d

    of : (r : Option Refusal) → r ≡ None → Told family book Settled (IsSettled b) r → Decides b (IsSettledPage family book.present)
    of None e t = same t.0 t.1.1 t.1.0
    of (Some r) e t = absurd (cc)

verdict_tells : (setting : Setting) {page : List Entry} → Tells setting page → (v : ℕ) → v < length setting.game → (hopeless sure : Bool) →
    (hopeless ≡ (value_at Hopeful v page == top_for Hopeful setting.game)) × (sure ≡ (value_at Dual v page == top_for Dual setting.game)) →
    (IsTrue hopeless → NeverWins setting page Player.Even v) × (IsTrue sure → NeverWins setting page Player.Odd v)
verdict_tells setting {page} tells v inside hopeless sure e = (
  (λ h. tells.hopeless v inside (eqb-true (value_at Hopeful v page) (top_for Hopeful setting.game) (sym e.0 ∙ h))),
  (λ h. tells.sure v inside (eqb-true (value_at Dual v page) (top_for Dual setting.game) (sym e.1 ∙ h))),
)

verdict_means : (setting : Setting) {page : List Entry} → Tells setting page → (v : ℕ) → v < length setting.game → (hopeless sure : Bool) →
    (hopeless ≡ (value_at Hopeful v page == top_for Hopeful setting.game)) × (sure ≡ (value_at Dual v page == top_for Dual setting.game)) →
    VerdictMeans setting page v hopeless sure
verdict_means setting {page} tells v inside hopeless sure e = record {
  lost = λ h. tells.lost v inside (hopeful_top h);
  won = λ h. tells.won v inside (dual_top h);
  not_both = λ both. tells.not_both v inside (hopeful_top both.0) (dual_top both.1);
}
  where
    hopeful_top : IsTrue hopeless → value_at Hopeful v page ≡ top_for Hopeful setting.game
    hopeful_top h = eqb-true (value_at Hopeful v page) (top_for Hopeful setting.game) (sym e.0 ∙ h)

    dual_top : IsTrue sure → value_at Dual v page ≡ top_for Dual setting.game
    dual_top h = eqb-true (value_at Dual v page) (top_for Dual setting.game) (sym e.1 ∙ h)

-- what a page tells after a legal history
pub page_tells_after : (setting : Setting) (history : List Event) → IsSetting setting → IsLegal (family_of setting) history →
    AllHandIn (IsLawful (family_of setting)) history → Tells setting (page_after (family_of setting) history)
page_tells_after setting history is_setting legal lawful =
    page_tells setting (sound_of setting is_setting) (page_after (family_of setting) history)
    (no_page_has_conflict (family_of setting) (family_is_monotone setting is_setting) history legal).present
    (pages_are_below (family_of setting) (family_is_monotone setting is_setting) history legal lawful).present

-- so the verdict that the book replies there means what it should
pub reply_means : (setting : Setting) (history : List Event) → IsSetting setting → IsLegal (family_of setting) history →
    AllHandIn (IsLawful (family_of setting)) history → (v : ℕ) → v < length setting.game → (hopeless sure : Bool) →
    IsReply (family_of setting) (book_after (family_of setting) opened history) (Verdict v) (VerdictIs hopeless sure) →
    VerdictMeans setting (page_after (family_of setting) history) v hopeless sure
reply_means setting history is_setting legal lawful v inside hopeless sure reply =
    verdict_means setting (page_tells_after setting history is_setting legal lawful) v inside hopeless sure
    (refused_none_verdict (family_of setting) (book_after (family_of setting) opened history) v hopeless sure reply)

-- equal tables have the same tops
same_tops : (setting : Setting) (one other : List Entry) (which : Which) (v : ℕ) → v < length setting.game → table_of which one (length setting.game) ≡ table_of which other (length setting.game) →
    IsTopAt setting one which v ↔ IsTopAt setting other which v
same_tops setting one other which v inside e = ((λ t. sym same ∙ t), (λ t. same ∙ t))
  where
    same : value_at which v one ≡ value_at which v other
    same = sym (table_of-at which one (length setting.game) v inside) ∙ ap (λ (l : List ℕ). slice_index l v) e ∙ table_of-at which other (length setting.game) v inside

pub headline : HeadlineHolds
headline setting history is_setting legal lawful = record {
  undo = λ front rest session s split. undo_restores family front session s (legal_front family history front rest (undo_of session s) legal split);
  redo = λ front rest session s split. redo_restores family front session s (legal_front family history front rest (redo_of session s) legal split);
  pages = each_from (PageIsBelow family) (λ page. ¬ (HasConflict setting (choices_of page))) (Tells setting) (λ page below fine. page_tells setting (sound_of setting is_setting) page fine below)
      (book_after family opened history) (pages_are_below family monotone history legal lawful) (no_page_has_conflict family monotone history legal);
  verdicts = λ front rest session v hopeless sure split inside. verdict_tells setting (front_page front rest (verdict_of session v hopeless sure) split) v inside hopeless sure
      (refused_none_verdict family (book_after family opened front) v hopeless sure (reply_at family history front rest (verdict_of session v hopeless sure) legal split));
  winners = λ front rest session v hopeless sure split inside. verdict_means setting (front_page front rest (verdict_of session v hopeless sure) split) v inside hopeless sure
      (refused_none_verdict family (book_after family opened front) v hopeless sure (reply_at family history front rest (verdict_of session v hopeless sure) legal split));
  settled = λ front rest session b split. settled_tells family (book_after family opened front) b (reply_at family history front rest (settled_of session b) legal split);
  alone = same_tables;
  same_verdicts = λ other other_legal other_lawful there back settled other_settled which v inside.
      same_tops setting (page_after family history) (page_after family other) which v inside (same_tables other other_legal other_lawful there back settled other_settled which);
}
  where
    same_tables : (other : List Event) → IsLegal (family_of setting) other → AllHandIn (IsLawful (family_of setting)) other →
        AllStand (choices_of (page_after (family_of setting) history)) (choices_of (page_after (family_of setting) other)) →
        AllStand (choices_of (page_after (family_of setting) other)) (choices_of (page_after (family_of setting) history)) →
        IsSettledPage (family_of setting) (page_after (family_of setting) history) → IsSettledPage (family_of setting) (page_after (family_of setting) other) →
        (which : Which) → table_of which (page_after (family_of setting) history) (length setting.game) ≡ table_of which (page_after (family_of setting) other) (length setting.game)
    same_tables other other_legal other_lawful there back settled other_settled =
        settled_are_equal (family_of setting) (family_is_monotone setting is_setting) (page_after (family_of setting) history) (page_after (family_of setting) other)
        (pages_are_below (family_of setting) (family_is_monotone setting is_setting) history legal lawful).present (pages_are_below (family_of setting) (family_is_monotone setting is_setting) other other_legal other_lawful).present
        (no_page_has_conflict (family_of setting) (family_is_monotone setting is_setting) history legal).present (no_page_has_conflict (family_of setting) (family_is_monotone setting is_setting) other other_legal).present
        there back settled other_settled

    family : Family
    family = family_of setting

    front_page : (front rest : List Event) (e : Event) → history ≡ front ++ e ∷ rest → Tells setting (page_after (family_of setting) front)
    front_page front rest e split = page_tells_after setting front is_setting l h
      where
        l : IsLegal (family_of setting) front
        l = beginning_is_legal (family_of setting) front (e ∷ rest) (subst (IsLegal (family_of setting)) split legal)

        h : AllHandIn (IsLawful (family_of setting)) front
        h = All-front (λ (x : Event). HandsIn (IsLawful (family_of setting)) x.call) front (e ∷ rest) (subst (AllHandIn (IsLawful (family_of setting))) split lawful)

    monotone : IsMonotone (family_of setting)
    monotone = family_is_monotone setting is_setting
