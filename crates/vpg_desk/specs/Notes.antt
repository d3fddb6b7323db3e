-- Notes of a book's pages: which of them are known to have a property, such as settled.
use Rattle.std.specs.Prelude.{◌≡◌, ℕ, Bool, List, [], ◌∷◌, IsTrue, ⊤}
use Rattle.vpg_trail.specs.Page.{Entry}
use Rattle.vpg_desk.specs.Book.{Book, Kept}
use Rattle.vpg_desk.specs.Trail.{Cut}

-- the present page's, and those of the past and future pages, the nearest first
pub record Notes : Type 0 where
  pub present : Bool
  pub past : List Bool
  pub future : List Bool

-- each page with a note has the property
abbrev pub NotedAre : (List Entry → Type 0) → List Bool → List Kept → Type 0
NotedAre P [] pages = ⊤
NotedAre P (note ∷ notes) [] = ⊤
NotedAre P (note ∷ notes) (k ∷ pages) = (IsTrue note → P k.page) × NotedAre P notes pages

-- each page with a note has the property
pub record NotesHold (P : List Entry → Type 0) (notes : Notes) (book : Book) : Type 0 where
  pub present : IsTrue notes.present → P book.present
  pub past : NotedAre P notes.past book.past
  pub future : NotedAre P notes.future book.future

-- The nearest page has a note. It has the entries up to the place and then the kept ones: both have the same entries
-- there, and none after them.
abbrev pub GivesBack : List Cut → List Bool → ℕ → List Entry → Type 0
GivesBack [] notes place kept = ⊥
GivesBack (cut ∷ cuts) [] place kept = ⊥
GivesBack (cut ∷ cuts) (note ∷ notes) place kept =
    IsTrue note × (cut.place ≡ place) × (cut.suffix ≡ []) × (kept ≡ [])
