-- Notes along the steps of the book.
use Rattle.std.proofs.Common.{ℕ, suc, zero, ◌∙◌, ◌<◌, ◌==◌, Bool, true, false, cond, List, [], ◌∷◌, ◌++◌, length, take, IsTrue, arith, sym, subst}
use Rattle.vpg_trail.specs.Page.{Entry}
use Rattle.vpg_desk.specs.Book.{Book, Kept, changed, undone, redone, kept, forgotten, in_front_of}
use Rattle.vpg_desk.specs.Notes.{Notes, NotedAre, NotesHold, GivesBack}
use Rattle.vpg_desk.specs.Trail.{Cut, pages_over}

module _ (P : List Entry → Type 0) where
  -- of fewer notes
  noted_take : (n : ℕ) (notes : List Bool) (pages : List Kept) → NotedAre P notes pages → NotedAre P (take n notes) pages
  noted_take zero [] pages a = tt
  noted_take (suc n) [] pages a = tt
  noted_take zero (note ∷ notes) pages a = tt
  noted_take (suc n) (note ∷ notes) [] a = tt
  noted_take (suc n) (note ∷ notes) (k ∷ pages) a = (a.0, noted_take n notes pages a.1)

  -- of the pages in front of a serial
  noted_front : (s : ℕ) (notes : List Bool) (pages : List Kept) → NotedAre P notes pages → NotedAre P notes (in_front_of s pages)
  noted_front s [] pages a = tt
  noted_front s (note ∷ notes) [] a = tt
  noted_front s (note ∷ notes) (k ∷ pages) a = go (k.serial == s) (noted_front s notes pages a.1)
    where
      go : (b : Bool) → NotedAre P notes (in_front_of s pages) → NotedAre P (note ∷ notes) (cond b [] (k ∷ in_front_of s pages))
      go true r = tt
      go false r = (a.0, r)

  -- a change keeps the note of the page that it leaves
  pub noted_with : (notes : Notes) (book : Book) (page : List Entry) (note : Bool) → (IsTrue note → P page) → NotesHold P notes book →
      NotesHold P (record { present = note; past = notes.present ∷ notes.past; future = [] }) (changed book page)
  noted_with notes book page note p h = record { present = p; past = (h.present, h.past); future = tt }

  -- undo and redo exchange the notes of the pages that they exchange
  pub noted_undone : (book : Book) (past : List Kept) (note was : Bool) (older future : List Bool) → 0 < length past → (IsTrue was → P book.present) → NotedAre P (note ∷ older) past → NotedAre P future book.future →
      NotesHold P (record { present = note; past = older; future = was ∷ future }) (undone book past)
  noted_undone book [] note was older future l p a f = absurd (omega arith)
  noted_undone book (k ∷ past) note was older future l p a f = record { present = a.0; past = a.1; future = (p, f) }

  pub noted_redone : (book : Book) (future : List Kept) (note was : Bool) (past further : List Bool) → 0 < length future → (IsTrue was → P book.present) → NotedAre P past book.past → NotedAre P (note ∷ further) future →
      NotesHold P (record { present = note; past = was ∷ past; future = further }) (redone book future)
  noted_redone book [] note was past further l p a f = absurd (omega arith)
  noted_redone book (k ∷ future) note was past further l p a f = record { present = f.0; past = (p, a); future = f.1 }

  -- what keep and forget drop takes its notes along
  pub noted_kept : (notes : Notes) (book : Book) (n s : ℕ) → NotesHold P notes book → NotesHold P (record notes { past = take n notes.past }) (kept book s)
  noted_kept notes book n s h = record { present = h.present; past = noted_take n notes.past (in_front_of s book.past) (noted_front s notes.past book.past h.past); future = h.future }

  pub noted_forgotten : (notes : Notes) (book : Book) (n s : ℕ) → NotesHold P notes book → NotesHold P (record notes { future = take n notes.future }) (forgotten book s)
  noted_forgotten notes book n s h = record { present = h.present; past = h.past; future = noted_take n notes.future (in_front_of s book.future) (noted_front s notes.future book.future h.future) }

  -- a page that is given back is so where it is noted
  pub noted_back : (cuts : List Cut) (notes : List Bool) (place : ℕ) (kept near : List Entry) → GivesBack cuts notes place kept → NotedAre P notes (pages_over near cuts) → P (take place near ++ kept)
  noted_back [] notes place kept near g a = absurd g
  noted_back (cut ∷ cuts) [] place kept near g a = absurd g
  noted_back (cut ∷ cuts) (note ∷ notes) place kept near (is, at, none, empty) a =
      subst P (λ i. take (at i) near ++ (none ∙ sym empty) i) (a.0 is)
