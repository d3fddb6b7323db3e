-- Which part another is joined with.
use Rattle.std.proofs.Common.{◌≡◌, ℕ, zero, suc, ◌+◌, ◌<◌, ◌≤◌, ◌⊎◌, inl, inr, List, [], ◌∷◌, ◌++◌, length, map, get_or, drop, refl, sym, ap, ◌∙◌, subst, append_assoc, arith}
use Rattle.std.specs.List.{remove}
use Rattle.std.proofs.lemmas.Bool.{cases_eq}
use Rattle.std.proofs.lemmas.List.{length-map, get_or-map, map-append, drop_more, drop_all}
use Rattle.vpg_diagram.specs.declared.clause.Literal.{Literal}
use Rattle.vpg_winners.specs.declared.parts.Part.{Part}
use Rattle.vpg_winners.specs.Joined.{PartView, CanJoin, HasNoMate, IsFirstMate, IsPut, alone, joined, ArePut, done, next, cut_by, without_literal}
use Rattle.vpg_winners.specs.Winners.{view_of, views}
use Rattle.vpg_winners.proofs.Differing.{place_within}

pub view_at : (parts : List Part) (k : ℕ) (x : Part) (d : PartView) → k < length parts → x ≡ get_or parts k x →
    get_or (views parts) k d ≡ view_of x
view_at parts k x d less e = get_or-map view_of parts k x d less ∙ sym (ap view_of e)

pub views_remove : (parts : List Part) (place : ℕ) → views (remove parts place) ≡ remove (views parts) place
views_remove [] zero = refl
views_remove [] (suc n) = refl
views_remove (p ∷ ps) zero = refl
views_remove (p ∷ ps) (suc n) = ap (λ (vs : List PartView). view_of p ∷ vs) (views_remove ps n)

module _ (parts : List Part) (part : PartView) where
  -- none of the first so many can be joined with it
  abbrev pub HasNoneBefore : ℕ → Type 0
  HasNoneBefore n = (k : ℕ) (d : PartView) → k < n → CanJoin (get_or (views parts) k d) part → ⊥

  pub none_before : HasNoneBefore 0
  none_before k d less = absurd (omega (arith, less))

  module _ (n : ℕ) (x : Part) (inside : n < length parts) (is : x ≡ get_or parts n x) (none : HasNoneBefore n) where
    pub none_next : (CanJoin (view_of x) part → ⊥) → HasNoneBefore (n + 1)
    none_next not k d less = of (cases_eq k n)
      where
        of : (k ≡ n) ⊎ (k ≡ n → ⊥) → CanJoin (get_or (views parts) k d) part → ⊥
        of (inl e) can = not (subst (λ (v : PartView). CanJoin v part)
            (ap (λ j. get_or (views parts) j d) e ∙ view_at parts n x d inside is) can)
        of (inr e) can = none k d (omega (arith, less, e)) can

  pub no_mate : (n : ℕ) → length parts ≤ n → HasNoneBefore n → HasNoMate (views parts) part
  no_mate n all none k d less = none k d (let e = length-map parts view_of in omega (arith, less, all, e))

-- the literal that is left out is one of the part's
pub part_place : (parts : List PartView) (part : PartView) (place literal : ℕ) →
    IsFirstMate parts part place literal → literal < length part.literals
part_place parts part place literal first =
    place_within (get_or parts place part).literals part.literals literal (first.joins part).literals

-- a part is taken out, and joined
pub put_joined : (parts left : List Part) (part : Part) (place literal : ℕ) (less : Part) (new : List PartView) →
    IsFirstMate (views parts) (view_of part) place literal → left ≡ remove parts place →
    view_of less ≡ without_literal (view_of part) literal → IsPut (views left) (view_of less) new →
    IsPut (views parts) (view_of part) new
put_joined parts left part place literal less new first e f put = joined place literal first
    (subst (λ (v : PartView). IsPut (remove (views parts) place) v new) f
    (subst (λ (vs : List PartView). IsPut vs (view_of less) new) (ap views e ∙ views_remove parts place) put))

-- it stands last
pub put_alone : (parts left : List Part) (part : Part) → left ≡ parts ++ part ∷ [] →
    HasNoMate (views parts) (view_of part) → IsPut (views parts) (view_of part) (views left)
put_alone parts left part e lonely = subst (λ (vs : List PartView). IsPut (views parts) (view_of part) vs)
    (sym (ap views e ∙ map-append view_of parts (part ∷ []))) (alone lonely)

-- one of several parts is put to others, and then the rest
pub put_next : (all more parts : List Part) (i : ℕ) (x cut : Part) (literal : Literal) (new : List PartView) →
    i < length parts → x ≡ get_or parts i x → view_of cut ≡ cut_by literal (view_of x) →
    IsPut (views all) (view_of cut) (views more) →
    ArePut (views more) (map (cut_by literal) (views (drop (i + 1) parts))) new →
    ArePut (views all) (map (cut_by literal) (views (drop i parts))) new
put_next all more parts i x cut literal new inside is e put rest =
    subst (λ (ps : List Part). ArePut (views all) (map (cut_by literal) (views ps)) new)
    (sym (drop_more parts i x inside ∙ ap (λ (p : Part). p ∷ drop (i + 1) parts) (sym is)))
    (next (subst (λ (v : PartView). IsPut (views all) v (views more)) e put) rest)

-- one of several parts takes a literal, and then the rest
pub cut_next : (parts more new : List Part) (i : ℕ) (x cut : Part) (literal : Literal) (all : List PartView) →
    i < length parts → x ≡ get_or parts i x → view_of cut ≡ cut_by literal (view_of x) → new ≡ more ++ cut ∷ [] →
    views more ++ map (cut_by literal) (views (drop i parts)) ≡ all →
    views new ++ map (cut_by literal) (views (drop (i + 1) parts)) ≡ all
cut_next parts more new i x cut literal all inside is view e same =
    ap (λ (ps : List Part). views ps ++ rest) e
    ∙ (ap (λ (vs : List PartView). vs ++ rest) (map-append view_of more (cut ∷ []))
    ∙ (append_assoc (views more) (view_of cut ∷ []) rest
    ∙ (ap (λ (v : PartView). views more ++ v ∷ rest) view
    ∙ (ap (λ (ps : List Part). views more ++ map (cut_by literal) (views ps))
    (sym (drop_more parts i x inside ∙ ap (λ (p : Part). p ∷ drop (i + 1) parts) (sym is))) ∙ same))))
  where
    rest : List PartView
    rest = map (cut_by literal) (views (drop (i + 1) parts))

pub put_none : (all parts : List Part) (i : ℕ) (literal : Literal) → length parts ≤ i →
    ArePut (views all) (map (cut_by literal) (views (drop i parts))) (views all)
put_none all parts i literal past =
    subst (λ (ps : List Part). ArePut (views all) (map (cut_by literal) (views ps)) (views all))
    (sym (drop_all i parts past)) done
