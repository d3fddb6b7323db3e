-- The first decision that does not stand.
use Rattle.std.proofs.Common.{◌≡◌, ℕ, ◌+◌, ◌<◌, Bool, true, false, cond, ◌&&◌, ◌==◌, List, [], ◌∷◌, ◌++◌, map, take, drop, length, get_or, Some, None, refl, sym, ap, ◌∙◌, eq-eqb, ne_eqb, take-append-drop}
use Rattle.std.proofs.lemmas.Bool.{or_from, or_left, or_right, cond-true, cond-false}
use Rattle.std.proofs.lemmas.List.{map-append, drop_more}
use Rattle.std.specs.Bool.{beq}
use Rattle.vpg_trail.specs.Page.{Literal, Decision, Entry as Step, Decided, literal_of, same_literal, stands, choices_of}
use Rattle.vpg_trail.proofs.PageLemmas.{any-append, stands-append}
use Rattle.vpg_desk.specs.Book.{first_missing}

-- ---- one choice among entries

both : (x y : Bool) → x ≡ true → y ≡ true → (x && y) ≡ true
both true y e h = h
both false y e h = cc

not_second : (x y : Bool) → y ≡ false → (x && y) ≡ false
not_second true y e = e
not_second false y e = refl

not_first : (x y : Bool) → x ≡ false → (x && y) ≡ false
not_first true y e = cc
not_first false y e = refl

-- the entry that a scan reads makes the choice
pub among_found : (c : Literal) (before : List Step) (made : Decision) (after : List Step) → c.feature ≡ made.feature → beq c.value made.value ≡ true → stands (choices_of (before ++ Decided made ∷ after)) c ≡ true
among_found c before made after f v =
    stands-append c before (Decided made ∷ after)
    ∙ or_right _ _ (or_left _ _ (both (c.feature == made.feature) (beq c.value made.value) (eq-eqb c.feature made.feature f) v))

pub among_more : (c : Literal) (before : List Step) (e : Step) → stands (choices_of before) c ≡ false → stands (choices_of (e ∷ [])) c ≡ false → stands (choices_of (before ++ e ∷ [])) c ≡ false
among_more c before e n m = stands-append c before (e ∷ []) ∙ or_from _ _ n m

-- it makes another one
pub other_feature : (c : Literal) (made : Decision) → (c.feature ≡ made.feature → ⊥) → stands (choices_of (Decided made ∷ [])) c ≡ false
other_feature c made n = or_from _ false (not_first (c.feature == made.feature) (beq c.value made.value) (ne_eqb c.feature made.feature n)) refl

pub other_value : (c : Literal) (made : Decision) → beq c.value made.value ≡ false → stands (choices_of (Decided made ∷ [])) c ≡ false
other_value c made n = or_from _ false (not_second (c.feature == made.feature) (beq c.value made.value) n) refl

-- a decision among those that are made makes the choice
pub stands_here : (c : Literal) (before : List Literal) (l : Literal) (after : List Literal) → c.feature ≡ l.feature → beq c.value l.value ≡ true → stands (before ++ l ∷ after) c ≡ true
stands_here c before l after f v =
    any-append (same_literal c) before (l ∷ after)
    ∙ or_right _ _ (or_left _ _ (both (c.feature == l.feature) (beq c.value l.value) (eq-eqb c.feature l.feature f) v))

-- ---- the first that is missing

pub missing_here : (present before : List Literal) (c : Literal) (after : List Literal) → first_missing present before ≡ None → stands present c ≡ false → first_missing present (before ++ c ∷ after) ≡ Some c.feature
missing_here present [] c after n e = cond-false _ _ _ e
missing_here present (b ∷ before) c after n e = go (stands present b) n (missing_here present before c after)
  where
    go : (x : Bool) → cond x (first_missing present before) (Some b.feature) ≡ None → (first_missing present before ≡ None → stands present c ≡ false → first_missing present (before ++ c ∷ after) ≡ Some c.feature) →
        cond x (first_missing present (before ++ c ∷ after)) (Some b.feature) ≡ Some c.feature
    go true k ih = ih k e
    go false k ih = cc

pub missing_more : (present before : List Literal) (c : Literal) → first_missing present before ≡ None → stands present c ≡ true → first_missing present (before ++ c ∷ []) ≡ None
missing_more present [] c n e = cond-true _ _ _ e
missing_more present (b ∷ before) c n e = go (stands present b) n (missing_more present before c)
  where
    go : (x : Bool) → cond x (first_missing present before) (Some b.feature) ≡ None → (first_missing present before ≡ None → stands present c ≡ true → first_missing present (before ++ c ∷ []) ≡ None) →
        cond x (first_missing present (before ++ c ∷ [])) (Some b.feature) ≡ None
    go true k ih = ih k e
    go false k ih = cc

-- the decisions round the one that a scan reads
pub split_decisions : (decisions : List Decision) (i : ℕ) (x : Decision) → i < length decisions →
    map literal_of decisions ≡ map literal_of (take i decisions) ++ literal_of (get_or decisions i x) ∷ map literal_of (drop (i + 1) decisions)
split_decisions decisions i x h =
    ap (map literal_of) (sym (take-append-drop i decisions))
    ∙ map-append literal_of (take i decisions) (drop i decisions)
    ∙ ap (λ (l : List Decision). map literal_of (take i decisions) ++ map literal_of l) (drop_more decisions i x h)
