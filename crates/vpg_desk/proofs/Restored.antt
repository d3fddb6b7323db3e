-- Accepted undos and redos restore pages.
use Rattle.std.proofs.Common.{◌≡◌, ℕ, List, [], ◌∷◌, ◌++◌, sym, ap, ◌∙◌, subst}
use Rattle.vpg_desk.specs.Book.{Book, Undo, Redo, Undone, Redone, opened, next, IsReply}
use Rattle.vpg_desk.specs.Desk.{family_of}
use Rattle.vpg_desk.specs.History.{Event, IsLegal, IsBeforeLast, gives_undo, gives_redo, undo_of, redo_of, book_after, page_after}
use Rattle.vpg_desk.specs.Setting.{Setting}
use Rattle.vpg_desk.specs.State.{DeskState, IsHistoryOf, IsStep, Restores, setting_of}
use Rattle.vpg_desk.proofs.UndoRedo.{undo_restores, redo_restores, one_more_is_legal}

-- a history of the book, with the call behind it
module _ (setting : Setting) (book new : Book) (history : List Event) (h : IsHistoryOf setting book history) (e : Event)
    (told : IsReply (family_of setting) book e.call e.reply) (leaves : new ≡ next (family_of setting) book e.session e.call e.reply) where
  more : IsLegal (family_of setting) (history ++ e ∷ []) × (book_after (family_of setting) opened (history ++ e ∷ []) ≡ next (family_of setting) (book_after (family_of setting) opened history) e.session e.call e.reply)
  more = one_more_is_legal (family_of setting) history e h.legal (subst (λ (b : Book). IsReply (family_of setting) b e.call e.reply) (sym h.leaves) told)

  longer_legal : IsLegal (family_of setting) (history ++ e ∷ [])
  longer_legal = more.0

  longer_leaves : new.present ≡ page_after (family_of setting) (history ++ e ∷ [])
  longer_leaves = ap (λ (b : Book). b.present) (leaves ∙ ap (λ (b : Book). next (family_of setting) b e.session e.call e.reply) (sym h.leaves) ∙ sym more.1)

pub undo_restored : (old new : DeskState) (s : ℕ) → IsStep old 0 (Undo s) (Undone s) new → Restores gives_undo old s new
undo_restored old new s step history h =
    let r : (before : List Event) × (IsBeforeLast (gives_undo s) before history × (page_after (family_of (setting_of old)) (history ++ undo_of 0 s ∷ []) ≡ page_after (family_of (setting_of old)) before)) =
    undo_restores (family_of (setting_of old)) history 0 s (longer_legal (setting_of old) old.book new.book history h (undo_of 0 s) step.step.0 step.step.1) in
    (r.0, (r.1.0, longer_leaves (setting_of old) old.book new.book history h (undo_of 0 s) step.step.0 step.step.1 ∙ r.1.1))

pub redo_restored : (old new : DeskState) (s : ℕ) → IsStep old 0 (Redo s) (Redone s) new → Restores gives_redo old s new
redo_restored old new s step history h =
    let r : (before : List Event) × (IsBeforeLast (gives_redo s) before history × (page_after (family_of (setting_of old)) (history ++ redo_of 0 s ∷ []) ≡ page_after (family_of (setting_of old)) before)) =
    redo_restores (family_of (setting_of old)) history 0 s (longer_legal (setting_of old) old.book new.book history h (redo_of 0 s) step.step.0 step.step.1) in
    (r.0, (r.1.0, longer_leaves (setting_of old) old.book new.book history h (redo_of 0 s) step.step.0 step.step.1 ∙ r.1.1))
