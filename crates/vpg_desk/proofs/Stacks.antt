-- Stacks of cuts, with the top last, against lists of cuts with the top first.
use Rattle.std.proofs.Common.{◌≡◌, ℕ, zero, suc, ◌-◌, ◌+◌, ◌<◌, ◌≤◌, Bool, true, false, cond, ◌||◌, ◌==◌, List, [], ◌∷◌, ◌++◌, map, reverse, length, length-drop, take, drop, slice_get, get_or, Option, Some, None, All, IfSome, arith, refl, sym, ap, ◌∙◌, subst, ne_eqb, eq-eqb, take_at, take-append-drop}
use Rattle.std.specs.List.{AllByRecursion, list_any}
use Rattle.std.proofs.lemmas.Bool.{cond-false, cond-true}
use Rattle.std.specs.Option.{option_to_list}
use Rattle.std.proofs.lemmas.List.Elements.{All-pop, All-push, All-same}
use Rattle.std.proofs.lemmas.List.{map-append, reverse-append, take_more, drop_more, length-map, length-reverse}
use Rattle.vpg_trail.proofs.PageLemmas.{any-append, well_formed_parts}
use Rattle.vpg_trail.specs.Page.{Entry as Step}
use Rattle.vpg_trail.specs.Shown.{entry_of, VertexBelow}
use Rattle.vpg_trail.specs.WellFormed.{IsWellFormed, LiftsStandAfter}
use Rattle.vpg_trail.proofs.Lifting.{well_formed_lifts_stand}
use Rattle.vpg_desk.specs.Book.{Kept, refuses_undo, refuses_redo, has_serial}
use Rattle.vpg_faults.specs.declared.refusal.Refusal.{Refusal}
use Rattle.vpg_faults.specs.declared.refusal.Refusal.TheVariants.{Sealed, NotNewest, Overtaken, NotNext}
use Rattle.vpg_desk.specs.Cuts.{cut_of, cuts_of, notes_of, serials_from_top, pages_of, SuffixesBelow}
use Rattle.vpg_desk.specs.Trail.{Cut as Saved, FitOver, cuts_in_front_of, pages_over, spliced}
use Rattle.vpg_desk.specs.declared.cuts.Cut.{Cut}
use Rattle.vpg_desk.proofs.Changing.{cuts_of-push, notes_of-push}

last_split_at : {X : Type 0} (xs : List X) (x : X) (n : ℕ) → length xs ≡ suc n → slice_get xs n ≡ Some x → xs ≡ take n xs ++ x ∷ []
last_split_at [] x n l e = absurd (omega arith)
last_split_at (a ∷ []) x zero l e = let s : a ≡ x = cc in ap (λ y. y ∷ []) s
last_split_at (a ∷ b ∷ xs) x zero l e = absurd (omega arith)
last_split_at (a ∷ []) x (suc n) l e = cc
last_split_at (a ∷ b ∷ xs) x (suc n) l e = ap (λ ys. a ∷ ys) (last_split_at (b ∷ xs) x n (omega arith) e)

pub last_split : {X : Type 0} (xs : List X) (x : X) → slice_get xs (length xs - 1) ≡ Some x → xs ≡ take (length xs - 1) xs ++ x ∷ []
last_split [] x e = cc
last_split (a ∷ xs) x e =
    let n : length (a ∷ xs) - 1 ≡ length xs = omega arith in
    subst (λ k. a ∷ xs ≡ take k (a ∷ xs) ++ x ∷ []) (sym n) (last_split_at (a ∷ xs) x (length xs) refl (ap (slice_get (a ∷ xs)) (sym n) ∙ e))

-- the top of a stack
pub cuts_of-last : (cuts : List Cut) (cut : Cut) → slice_get cuts (length cuts - 1) ≡ Some cut → cuts_of cuts ≡ cut_of cut ∷ cuts_of (take (length cuts - 1) cuts)
cuts_of-last cuts cut e = ap cuts_of (last_split cuts cut e) ∙ cuts_of-push (take (length cuts - 1) cuts) cut

module _ (entries : List Step) (cuts : List Cut) (cut : Cut) (further : List Saved) (top : cuts_of cuts ≡ cut_of cut ∷ further) where
  pub nearest_fits : FitOver entries (cuts_of cuts) → cut.place ≤ length entries
  nearest_fits fits = let f : FitOver entries (cut_of cut ∷ further) = subst (FitOver entries) top fits in f.0

  -- the nearest page, by the top of the stack
  pub nearest_page : (P : List Step → Type 0) → AllByRecursion (λ k. P k.page) (pages_of entries cuts) → P (spliced entries cut.place (map entry_of cut.suffix.items))
  nearest_page P a = at (subst (λ (l : List Saved). AllByRecursion (λ (k : Kept). P k.page) (pages_over entries l)) top a)
    where
      at : AllByRecursion (λ (k : Kept). P k.page) (pages_over entries (cut_of cut ∷ further)) → P (spliced entries cut.place (map entry_of cut.suffix.items))
      at b = b.0

  -- its lifts stand
  pub nearest_lifts : AllByRecursion (λ k. IsWellFormed k.page) (pages_of entries cuts) → LiftsStandAfter (take cut.place entries) (map entry_of cut.suffix.items)
  nearest_lifts a =
      well_formed_lifts_stand (take cut.place entries) (map entry_of cut.suffix.items)
      (well_formed_parts [] (take cut.place entries) (map entry_of cut.suffix.items) (nearest_page IsWellFormed a)).1

  -- the first cut is the top
  pub nearest_cut : (first : Saved) (others : List Saved) → cuts_of cuts ≡ first ∷ others → cut_of cut ≡ first
  nearest_cut first others e = let both : cut_of cut ∷ further ≡ first ∷ others = sym top ∙ e in cc

-- what is so of a stack whose top is taken off
module _ (cuts older : List Cut) (r : Option Cut) (cut : Cut) (pops : cuts ≡ older ++ option_to_list r) (is : r ≡ Some cut) where
  popped : cuts ≡ older ++ cut ∷ []
  popped = pops ∙ ap (λ (o : Option Cut). older ++ option_to_list o) is

  pub popped_cuts : cuts_of cuts ≡ cut_of cut ∷ cuts_of older
  popped_cuts = ap cuts_of popped ∙ cuts_of-push older cut

  pub popped_notes : notes_of cuts ≡ cut.is_noted ∷ notes_of older
  popped_notes = ap notes_of popped ∙ notes_of-push older cut

  pub popped_fits : (entries : List Step) → FitOver entries (cuts_of cuts) → cut.place ≤ length entries
  popped_fits entries fits = nearest_fits entries cuts cut (cuts_of older) popped_cuts fits

  module _ (n : ℕ) (below : SuffixesBelow n cuts) where
    both : All (λ (c : Cut). All (λ e. VertexBelow n (entry_of e)) c.suffix.items) older × IfSome r (λ (c : Cut). All (λ e. VertexBelow n (entry_of e)) c.suffix.items)
    both = All-pop (λ (c : Cut). All (λ e. VertexBelow n (entry_of e)) c.suffix.items) cuts older r pops below

    pub popped_below : SuffixesBelow n older
    popped_below = both.0

    pub popped_suffix : All (λ e. VertexBelow n (entry_of e)) cut.suffix.items
    popped_suffix = subst (λ (o : Option Cut). IfSome o (λ (c : Cut). All (λ e. VertexBelow n (entry_of e)) c.suffix.items)) is both.1

-- what is so of one that has one cut more
module _ (cuts after : List Cut) (cut : Cut) (pushes : after ≡ cuts ++ cut ∷ []) where
  pub pushed_cuts : cuts_of after ≡ cut_of cut ∷ cuts_of cuts
  pushed_cuts = ap cuts_of pushes ∙ cuts_of-push cuts cut

  pub pushed_notes : notes_of after ≡ cut.is_noted ∷ notes_of cuts
  pushed_notes = ap notes_of pushes ∙ notes_of-push cuts cut

  pub pushed_below : (n : ℕ) → All (λ e. VertexBelow n (entry_of e)) cut.suffix.items → SuffixesBelow n cuts → SuffixesBelow n after
  pushed_below n suffix below =
      All-same (λ (c : Cut). All (λ e. VertexBelow n (entry_of e)) c.suffix.items) after (cuts ++ cut ∷ []) pushes
      (All-push (λ (c : Cut). All (λ e. VertexBelow n (entry_of e)) c.suffix.items) cuts cut below suffix)

-- a cut is taken off, and one of the same entries is put back
pub put_back_below : (n : ℕ) (cuts older after : List Cut) (r : Option Cut) (cut back : Cut) → cuts ≡ older ++ option_to_list r → r ≡ Some cut → after ≡ older ++ back ∷ [] → back.suffix.items ≡ cut.suffix.items → SuffixesBelow n cuts → SuffixesBelow n after
put_back_below n cuts older after r cut back pops is pushes same a =
    let t : All (λ (c : Cut). All (λ e. VertexBelow n (entry_of e)) c.suffix.items) older × IfSome r (λ (c : Cut). All (λ e. VertexBelow n (entry_of e)) c.suffix.items) = All-pop (λ (c : Cut). All (λ e. VertexBelow n (entry_of e)) c.suffix.items) cuts older r pops a in
    All-same (λ (c : Cut). All (λ e. VertexBelow n (entry_of e)) c.suffix.items) after (older ++ back ∷ []) pushes
    (All-push (λ (c : Cut). All (λ e. VertexBelow n (entry_of e)) c.suffix.items) older back t.0 (All-same (λ e. VertexBelow n (entry_of e)) back.suffix.items cut.suffix.items same (subst (λ (o : Option Cut). IfSome o (λ (c : Cut). All (λ e. VertexBelow n (entry_of e)) c.suffix.items)) is t.1)))

or_comm : (a b : Bool) → (a || b) ≡ (b || a)
or_comm true true = refl
or_comm true false = refl
or_comm false true = refl
or_comm false false = refl

or_false : (b : Bool) → (b || false) ≡ b
or_false true = refl
or_false false = refl

or_true : (b : Bool) → (b || true) ≡ true
or_true true = refl
or_true false = refl

-- a cut of the serial stands among the cuts
pub serial_found : (s : ℕ) (cuts : List Cut) (i : ℕ) (x : Cut) → i < length cuts → x ≡ get_or cuts i x → x.serial ≡ s → list_any (λ c. c.serial == s) cuts ≡ true
serial_found s [] i x lt is e = absurd (omega arith)
serial_found s (c ∷ cuts) zero x lt is e = ap (λ (b : Bool). b || list_any (λ c. c.serial == s) cuts) (eq-eqb c.serial s (ap (λ (y : Cut). y.serial) (sym is) ∙ e))
serial_found s (c ∷ cuts) (suc i) x lt is e = ap (λ (b : Bool). (c.serial == s) || b) (serial_found s cuts i x (omega arith) is e) ∙ or_true (c.serial == s)

-- none of one cut more has it
pub serial_not_yet : (s : ℕ) (cuts : List Cut) (i : ℕ) (x : Cut) → i < length cuts → x ≡ get_or cuts i x → list_any (λ c. c.serial == s) (take i cuts) ≡ false → (x.serial ≡ s → ⊥) → list_any (λ c. c.serial == s) (take (i + 1) cuts) ≡ false
serial_not_yet s cuts i x lt is none n =
    ap (list_any (λ c. c.serial == s)) (take_more cuts i x lt)
    ∙ any-append (λ c. c.serial == s) (take i cuts) (get_or cuts i x ∷ [])
    ∙ ap (λ (b : Bool). b || ((get_or cuts i x).serial == s || false)) none
    ∙ or_false ((get_or cuts i x).serial == s)
    ∙ ne_eqb (get_or cuts i x).serial s (λ e. n (ap (λ (y : Cut). y.serial) is ∙ e))

any_serial : (s : ℕ) (cuts : List Cut) → has_serial s (map (λ c. c.serial) cuts) ≡ list_any (λ c. c.serial == s) cuts
any_serial s [] = refl
any_serial s (c ∷ cuts) = ap (λ (b : Bool). (c.serial == s) || b) (any_serial s cuts)

any-reverse : {X : Type 0} (test : X → Bool) (xs : List X) → list_any test (reverse xs) ≡ list_any test xs
any-reverse test [] = refl
any-reverse test (x ∷ xs) = ap (list_any test) (reverse-append (x ∷ []) xs) ∙ any-append test (reverse xs) (x ∷ []) ∙ or_comm (list_any test (reverse xs)) (test x || false) ∙ ap (λ (b : Bool). b || list_any test (reverse xs)) (or_false (test x)) ∙ ap (λ (b : Bool). test x || b) (any-reverse test xs)

-- ---- the refusals, by the last cut

-- a serial is refused where it isn't the first: by the first's name where it is further on, and else as absent
abbrev by_serials : (ℕ → Refusal) → Refusal → ℕ → List ℕ → Option Refusal
by_serials named absent s [] = Some absent
by_serials named absent s (first ∷ further) = cond (first == s) None (cond (has_serial s further) (Some (named first)) (Some absent))

undo_by_serials : (s : ℕ) (serials : List ℕ) → refuses_undo s serials ≡ by_serials NotNewest Sealed s serials
undo_by_serials s [] = refl
undo_by_serials s (n ∷ serials) = refl

redo_by_serials : (s : ℕ) (serials : List ℕ) → refuses_redo s serials ≡ by_serials NotNext Overtaken s serials
redo_by_serials s [] = refl
redo_by_serials s (n ∷ serials) = refl

module _ (named : ℕ → Refusal) (absent : Refusal) where
  by_parts : (older : List Cut) (top : Cut) (s : ℕ) →
      by_serials named absent s (serials_from_top (older ++ top ∷ [])) ≡ cond (top.serial == s) None (cond (list_any (λ c. c.serial == s) (older ++ top ∷ [])) (Some (named top.serial)) (Some absent))
  by_parts older top s =
      ap (λ (l : List Cut). by_serials named absent s (map (λ c. c.serial) l)) (reverse-append older (top ∷ []))
      ∙ ap (λ (b : Bool). cond (top.serial == s) None (cond b (Some (named top.serial)) (Some absent))) (any_serial s (reverse older) ∙ any-reverse (λ (c : Cut). c.serial == s) older)
      ∙ go (top.serial == s) refl
    where
      go : (b : Bool) → (top.serial == s) ≡ b →
          cond b None (cond (list_any (λ c. c.serial == s) older) (Some (named top.serial)) (Some absent)) ≡ cond b None (cond (list_any (λ c. c.serial == s) (older ++ top ∷ [])) (Some (named top.serial)) (Some absent))
      go true e = refl
      go false e = ap (λ (b : Bool). cond b (Some (named top.serial)) (Some absent)) (sym (any-append (λ (c : Cut). c.serial == s) older (top ∷ []) ∙ ap (λ (b : Bool). list_any (λ c. c.serial == s) older || (b || false)) e ∙ or_false (list_any (λ c. c.serial == s) older)))

  by_last : (cuts : List Cut) (top : Cut) (s : ℕ) → slice_get cuts (length cuts - 1) ≡ Some top →
      by_serials named absent s (serials_from_top cuts) ≡ cond (top.serial == s) None (cond (list_any (λ c. c.serial == s) cuts) (Some (named top.serial)) (Some absent))
  by_last cuts top s e =
      subst (λ (l : List Cut). by_serials named absent s (serials_from_top l) ≡ cond (top.serial == s) None (cond (list_any (λ c. c.serial == s) l) (Some (named top.serial)) (Some absent))) (sym (last_split cuts top e))
      (by_parts (take (length cuts - 1) cuts) top s)

  by_same : (cuts : List Cut) (top : Cut) (s : ℕ) → slice_get cuts (length cuts - 1) ≡ Some top → top.serial ≡ s → by_serials named absent s (serials_from_top cuts) ≡ None
  by_same cuts top s e n = by_last cuts top s e ∙ cond-true _ _ _ (eq-eqb top.serial s n)

  by_other : (cuts : List Cut) (top : Cut) (s : ℕ) (b : Bool) → slice_get cuts (length cuts - 1) ≡ Some top → (top.serial ≡ s → ⊥) → list_any (λ c. c.serial == s) cuts ≡ b →
      by_serials named absent s (serials_from_top cuts) ≡ cond b (Some (named top.serial)) (Some absent)
  by_other cuts top s b e n h = by_last cuts top s e ∙ cond-false _ _ _ (ne_eqb top.serial s n) ∙ ap (λ (b : Bool). cond b (Some (named top.serial)) (Some absent)) h

pub undo_other : (cuts : List Cut) (top : Cut) (s : ℕ) (b : Bool) → slice_get cuts (length cuts - 1) ≡ Some top → (top.serial ≡ s → ⊥) → list_any (λ c. c.serial == s) cuts ≡ b →
    refuses_undo s (serials_from_top cuts) ≡ cond b (Some (NotNewest top.serial)) (Some Sealed)
undo_other cuts top s b e n h = undo_by_serials s (serials_from_top cuts) ∙ by_other NotNewest Sealed cuts top s b e n h

pub redo_other : (cuts : List Cut) (top : Cut) (s : ℕ) (b : Bool) → slice_get cuts (length cuts - 1) ≡ Some top → (top.serial ≡ s → ⊥) → list_any (λ c. c.serial == s) cuts ≡ b →
    refuses_redo s (serials_from_top cuts) ≡ cond b (Some (NotNext top.serial)) (Some Overtaken)
redo_other cuts top s b e n h = redo_by_serials s (serials_from_top cuts) ∙ by_other NotNext Overtaken cuts top s b e n h

-- ---- the cuts in front of a serial

front_here : (s : ℕ) (c : Cut) (cuts : List Saved) → c.serial ≡ s → cuts_in_front_of s (cut_of c ∷ cuts) ≡ []
front_here s c cuts e = cond-true _ _ _ (eq-eqb c.serial s e)

front_other : (s : ℕ) (c : Cut) (cuts : List Saved) → (c.serial ≡ s → ⊥) → cuts_in_front_of s (cut_of c ∷ cuts) ≡ cut_of c ∷ cuts_in_front_of s cuts
front_other s c cuts n = cond-false _ _ _ (ne_eqb c.serial s n)

module _ (s : ℕ) (cuts : List Cut) (m : ℕ) (c : Cut) (within : m < length cuts) (read : c ≡ get_or cuts m c)
    (so_far : cuts_in_front_of s (cuts_of cuts) ≡ cuts_of (drop (m + 1) cuts) ++ cuts_in_front_of s (cuts_of (take (m + 1) cuts))) where
  below : cuts_of (take (m + 1) cuts) ≡ cut_of c ∷ cuts_of (take m cuts)
  below = ap cuts_of (take_more cuts m c within ∙ ap (λ (x : Cut). take m cuts ++ x ∷ []) (sym read)) ∙ cuts_of-push (take m cuts) c

  above : cuts_of (drop m cuts) ≡ cuts_of (drop (m + 1) cuts) ++ cut_of c ∷ []
  above =
      ap cuts_of (drop_more cuts m c within ∙ ap (λ (x : Cut). x ∷ drop (m + 1) cuts) (sym read))
      ∙ ap (map cut_of) (reverse-append (c ∷ []) (drop (m + 1) cuts)) ∙ map-append cut_of (reverse (drop (m + 1) cuts)) (c ∷ [])

-- the notes of the cuts from n on are the nearest ones
notes_from : (n : ℕ) (cuts : List Cut) → notes_of (drop n cuts) ≡ take (length (drop n cuts)) (notes_of cuts)
notes_from n cuts =
    sym (ap (take (length (drop n cuts))) split
    ∙ take_at (notes_of (drop n cuts)) (notes_of (take n cuts)) (length (drop n cuts)) (length-map (reverse (drop n cuts)) (λ c. c.is_noted) ∙ length-reverse (drop n cuts)))
  where
    split : notes_of cuts ≡ notes_of (drop n cuts) ++ notes_of (take n cuts)
    split =
        ap notes_of (sym (take-append-drop n cuts)) ∙ ap (map (λ (c : Cut). c.is_noted)) (reverse-append (take n cuts) (drop n cuts))
        ∙ map-append (λ (c : Cut). c.is_noted) (reverse (drop n cuts)) (reverse (take n cuts))

-- so they are those that stay where the first n are brought to the end and dropped
pub notes_left : (n rest : ℕ) (cuts rotated left : List Cut) → n ≤ length cuts → rest ≡ length cuts - n → rotated ≡ drop n cuts ++ take n cuts → left ≡ take rest rotated → notes_of left ≡ take (length left) (notes_of cuts)
notes_left n rest cuts rotated left h r turned cut = subst (λ (l : List Cut). notes_of l ≡ take (length l) (notes_of cuts)) (sym same) (notes_from n cuts)
  where
    same : left ≡ drop n cuts
    same = cut ∙ ap (take rest) turned ∙ take_at (drop n cuts) (take n cuts) rest (omega (arith, length-drop n cuts))
