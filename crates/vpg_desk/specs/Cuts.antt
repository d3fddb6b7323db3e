-- The cuts that stand for past and future pages, as contracts see them.
use Rattle.std.specs.Prelude.{◌≡◌, ℕ, Bool, List, ◌∷◌, map, reverse, All}
use Rattle.vpg_trail.specs.Page.{Entry as Step}
use Rattle.vpg_trail.specs.Shown.{entry_of, VertexBelow}
use Rattle.vpg_desk.specs.Book.{Kept}
use Rattle.vpg_desk.specs.Trail.{Cut as Saved, Trail as CutBook, exchanged, pages_over, spliced}
use Rattle.vpg_desk.specs.declared.cuts.Cut.{Cut}

abbrev pub cut_of : Cut → Saved
cut_of c = record { serial = c.serial; place = c.place; suffix = map entry_of c.suffix.items }

-- a stack of cuts from its top, which stands last
abbrev pub cuts_of : List Cut → List Saved
cuts_of cuts = map cut_of (reverse cuts)

abbrev pub serials_from_top : List Cut → List ℕ
serials_from_top cuts = map (λ c. c.serial) (reverse cuts)

-- the notes of the pages that they lead to
abbrev pub notes_of : List Cut → List Bool
notes_of cuts = map (λ c. c.is_noted) (reverse cuts)

-- the book by its cuts
abbrev pub cut_book : List Cut → List Step → List Cut → ℕ → ℕ → CutBook
cut_book past entries future changes tokens =
    record { past = cuts_of past; entries = entries; future = cuts_of future; changes = changes; tokens = tokens }

-- the suffixes are on vertices below n
abbrev pub SuffixesBelow : ℕ → List Cut → Type 0
SuffixesBelow n cuts = All (λ c. All (λ e. VertexBelow n (entry_of e)) c.suffix.items) cuts

-- the pages that the cuts lead to, the nearest first
abbrev pub pages_of : List Step → List Cut → List Kept
pages_of entries cuts = pages_over entries (cuts_of cuts)

-- the nearest page of one side is the present one now, and the one that was present is the nearest of the other side
pub record IsSwung (from : List Cut) (entries : List Step) (to from_after : List Cut) (entries_after : List Step)
    (to_after : List Cut) : Type 0 where
  pub nearest : Saved
  pub left : cuts_of from ≡ nearest ∷ cuts_of from_after
  pub entries_are : entries_after ≡ spliced entries nearest.place nearest.suffix
  pub went : cuts_of to_after ≡ exchanged entries nearest ∷ cuts_of to
