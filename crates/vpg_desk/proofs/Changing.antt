-- A decision more: the book, and what the desk keeps.
use Rattle.std.proofs.Common.{◌≡◌, ℕ, ◌+◌, List, [], ◌∷◌, ◌++◌, length, map, drop, arith, refl, sym, ap, ◌∙◌}
use Rattle.std.proofs.lemmas.List.{drop_all, reverse-append}
use Rattle.vpg_trail.specs.Page.{Entry as Step}
use Rattle.vpg_desk.specs.Book.{changed}
use Rattle.vpg_desk.specs.Cuts.{cut_of, cuts_of, notes_of, cut_book}
use Rattle.vpg_desk.specs.Trail.{Cut as Saved, FitOver, StandsFor, book_of, cut_at}
use Rattle.vpg_desk.specs.declared.cuts.Cut.{Cut}
use Rattle.vpg_desk.proofs.Trail.{cut_is_change, decide_cuts_at_end}

pub cuts_of-push : (cuts : List Cut) (cut : Cut) → cuts_of (cuts ++ cut ∷ []) ≡ cut_of cut ∷ cuts_of cuts
cuts_of-push cuts cut = ap (λ (l : List Cut). map cut_of l) (reverse-append cuts (cut ∷ []))

pub notes_of-push : (cuts : List Cut) (cut : Cut) → notes_of (cuts ++ cut ∷ []) ≡ cut.is_noted ∷ notes_of cuts
notes_of-push cuts cut = ap (map (λ (c : Cut). c.is_noted)) (reverse-append cuts (cut ∷ []))

-- the cut that a decision leaves
abbrev pub end_cut : ℕ → List Step → Saved
end_cut serial entries = record { serial = serial; place = length entries; suffix = [] }

-- the trail with a decision more stands for the changed book
pub decided_stands : (past later : List Cut) (entries : List Step) (future : List Cut) (changes tokens : ℕ) (e : Step) → cuts_of later ≡ end_cut (changes + 1) entries ∷ cuts_of past →
    FitOver entries (cuts_of past) → FitOver entries (cuts_of future) →
    StandsFor (cut_book later (entries ++ e ∷ []) [] (changes + 1) (tokens + 1)) (changed (book_of (cut_book past entries future changes tokens)) (entries ++ e ∷ []))
decided_stands past later entries future changes tokens e cuts p f =
    coe 0 1 (i. StandsFor (same i) (changed (book_of (cut_book past entries future changes tokens)) (decide_cuts_at_end entries (e ∷ []) i)))
    (cut_is_change (cut_book past entries future changes tokens) (book_of (cut_book past entries future changes tokens)) (length entries) (e ∷ []) (record { same = refl; past_fits = p; future_fits = f }) (omega arith))
  where
    none : drop (length entries) entries ≡ []
    none = drop_all (length entries) entries (omega arith)

    same : cut_at (cut_book past entries future changes tokens) (length entries) (e ∷ []) ≡ cut_book later (entries ++ e ∷ []) [] (changes + 1) (tokens + 1)
    same = λ i. record {
      past = (ap (λ (s : List Step). record { serial = changes + 1; place = length entries; suffix = s } ∷ cuts_of past) none ∙ sym cuts) i;
      entries = decide_cuts_at_end entries (e ∷ []) i;
      future = [];
      changes = changes + 1;
      tokens = tokens + 1;
    }
