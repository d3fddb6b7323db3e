-- Marks of parts, and the place of one that is the same.
use Rattle.std.proofs.Common.{◌≡◌, ℕ, zero, suc, ◌+◌, ◌<◌, ◌≤◌, ◌⊎◌, inl, inr, List, [], ◌∷◌, ◌++◌, length, map, take, drop, get_or, slice_set, Option, Bool, ◌%◌, false, true, refl, sym, ap, ◌∙◌, subst, append_assoc, append-nil, arith}
use Rattle.std.specs.List.{AllByRecursion, remove}
use Rattle.std.proofs.lemmas.Bool.{cases_eq, cases_lt}
use Rattle.std.proofs.lemmas.List.{length-map, get_or-map, map-append, get_or_default, get_or-set_same, get_or-set_other, drop_more, drop_all, take_all}
use Rattle.std.proofs.lemmas.List.Elements.{All-from_recursion, recursion_from_All}
use Rattle.std.specs.Prelude.{IfSome}
use Rattle.vpg_diagram.proofs.Lists.{All-append}
use Rattle.vpg_winners.specs.Numbered.{AreNumberedBy, IsAdditive, IsNumberedBy, sum_of}
use Rattle.vpg_winners.proofs.Numbers.{All-remove, sum_is}
use Rattle.vpg_winners.proofs.Putting.{all_joined, cut_joined}
use Rattle.vpg_diagram.specs.declared.clause.Literal.{Literal}
use Rattle.vpg_why.specs.Suffices.{choice}
use Rattle.vpg_winners.specs.declared.parts.Part.{Part}
use Rattle.vpg_winners.specs.Joined.{AreHalves, PartView, cut_by, CanJoin, JoinsAt, ArePut, done, next}
use Rattle.vpg_winners.proofs.SameParts.{IsApart, AreApart, apart_next, paired_put, paired_is, head_none, tail_joined, own_join}
use Rattle.vpg_winners.specs.Pairs.{AreFlagged, marked, mark_from, mark_in, mark_of, IsFirstSame, HasNone, HasNot, IsPaired, IsBehind, AreBehind}
use Rattle.vpg_winners.specs.Winners.{AreJoined, view_of, views}

-- ---- marks

pub mark_next : (xs : List Literal) (i : ℕ) (x : Literal) (m : ℕ) → i < length xs → x ≡ get_or xs i x →
    mark_from (marked m x) (drop (i + 1) xs) ≡ mark_from m (drop i xs)
unfolding mark_from
mark_next xs i x m inside is = sym (ap (λ (ls : List Literal). mark_from m ls)
    (drop_more xs i x inside ∙ ap (λ (l : Literal). l ∷ drop (i + 1) xs) (sym is)))

pub mark_end : (xs : List Literal) (i m : ℕ) → length xs ≤ i → mark_from m (drop i xs) ≡ m
unfolding mark_from
mark_end xs i m past = ap (λ (ls : List Literal). mark_from m ls) (drop_all i xs past)

pub marks_next : (parts : List Part) (marks new : List ℕ) (i : ℕ) (x : Part) (m : ℕ) → i < length parts →
    x ≡ get_or parts i x → m ≡ mark_of x → new ≡ marks ++ m ∷ [] →
    new ++ map mark_of (drop (i + 1) parts) ≡ marks ++ map mark_of (drop i parts)
marks_next parts marks new i x m inside is e n =
    ap (λ (ms : List ℕ). ms ++ map mark_of (drop (i + 1) parts)) n
    ∙ append_assoc marks (m ∷ []) (map mark_of (drop (i + 1) parts))
    ∙ ap (λ k. marks ++ k ∷ map mark_of (drop (i + 1) parts)) e
    ∙ ap (λ (ps : List Part). marks ++ map mark_of ps)
    (sym (drop_more parts i x inside ∙ ap (λ (p : Part). p ∷ drop (i + 1) parts) (sym is)))

pub marks_end : (parts : List Part) (marks : List ℕ) (i : ℕ) → length parts ≤ i →
    marks ++ map mark_of (drop i parts) ≡ marks
marks_end parts marks i past =
    ap (λ (ps : List Part). marks ++ map mark_of ps) (drop_all i parts past) ∙ append-nil marks

pub marks_removed : (parts : List Part) (place : ℕ) → remove (map mark_of parts) place ≡ map mark_of (remove parts place)
marks_removed [] zero = refl
marks_removed [] (suc n) = refl
marks_removed (p ∷ ps) zero = refl
marks_removed (p ∷ ps) (suc n) = ap (λ (ms : List ℕ). mark_of p ∷ ms) (marks_removed ps n)

pub views_removed : (parts : List Part) (place : ℕ) → views (remove parts place) ≡ remove (views parts) place
views_removed [] zero = refl
views_removed [] (suc n) = refl
views_removed (p ∷ ps) zero = refl
views_removed (p ∷ ps) (suc n) = ap (λ (vs : List PartView). view_of p ∷ vs) (views_removed ps n)

pub mark_by_view : (parts : List Part) (k d : ℕ) (v : PartView) → k < length parts →
    get_or (map mark_of parts) k d ≡ mark_in (get_or (views parts) k v)
mark_by_view [] k d v less = absurd (omega (arith, less))
mark_by_view (p ∷ ps) zero d v less = refl
mark_by_view (p ∷ ps) (suc k) d v less = mark_by_view ps k d v (omega (arith, less))

pub not_next : (marks : List ℕ) (from mark place : ℕ) → HasNot marks from mark place →
    ((d : ℕ) → get_or marks place d ≡ mark → ⊥) → HasNot marks from mark (place + 1)
not_next marks from mark place before not k d later less = of (cases_eq k place)
  where
    of : (k ≡ place) ⊎ (k ≡ place → ⊥) → get_or marks k d ≡ mark → ⊥
    of (inl e) same = not d (ap (λ j. get_or marks j d) (sym e) ∙ same)
    of (inr e) same = before k d later (omega (arith, less, e)) same

-- ---- flags of marks

-- the flags of the first marks are set
abbrev pub AreFirstFlagged : List Bool → List ℕ → (slots count : ℕ) → Type 0
AreFirstFlagged flags marks slots count =
    (k d : ℕ) → k < count → get_or flags (get_or marks k d % slots) false ≡ true

pub flags_long : (flags : List Bool) (i : ℕ) (x : Bool) → length (slice_set flags i x) ≡ length flags
flags_long [] i x = refl
flags_long (b ∷ bs) zero x = refl
flags_long (b ∷ bs) (suc i) x = ap suc (flags_long bs i x)

pub flags_next : (d : ℕ) (flags : List Bool) (marks : List ℕ) (slots i slot : ℕ) → length flags ≡ slots → i < length marks →
    slot < slots → slot ≡ get_or marks i d % slots → AreFirstFlagged flags marks slots i →
    AreFirstFlagged (slice_set flags slot true) marks slots (i + 1)
flags_next d flags marks slots i slot long inside less is first k e below = of (cases_eq k i) (cases_eq (get_or marks k e % slots) slot)
  where
    own : get_or (slice_set flags slot true) slot false ≡ true
    own = get_or-set_same flags slot true false (omega (arith, long, less))

    of : (k ≡ i) ⊎ (k ≡ i → ⊥) → (get_or marks k e % slots ≡ slot) ⊎ (get_or marks k e % slots ≡ slot → ⊥) →
        get_or (slice_set flags slot true) (get_or marks k e % slots) false ≡ true
    of _ (inl same) = ap (λ j. get_or (slice_set flags slot true) j false) same ∙ own
    of (inl same) (inr other) = absurd (other (ap (λ m. m % slots)
        (ap (λ j. get_or marks j e) same ∙ get_or_default marks i e d inside) ∙ sym is))
    of (inr new) (inr other) = get_or-set_other flags slot (get_or marks k e % slots) true false other
        ∙ first k e (omega (arith, below, new))

pub flags_end : (flags : List Bool) (marks : List ℕ) (slots i : ℕ) → length flags ≡ slots → 0 < slots →
    length marks ≤ i → AreFirstFlagged flags marks slots i → AreFlagged flags marks
flags_end flags marks slots i long some past first = record {
  some = omega (arith, long, some);
  each = recursion_from_All (λ m. get_or flags (m % length flags) false ≡ true) marks
      (λ k d less. ap (λ n. get_or flags (get_or marks k d % n) false) long ∙ first k d (omega (arith, less, past)));
}

pub flags_removed : (flags : List Bool) (marks left : List ℕ) (place : ℕ) → left ≡ remove marks place →
    AreFlagged flags marks → AreFlagged flags left
flags_removed flags marks left place e are = record {
  some = are.some;
  each = subst (λ (ms : List ℕ). AllByRecursion (λ m. get_or flags (m % length flags) false ≡ true) ms) (sym e)
      (All-remove (λ m. get_or flags (m % length flags) false ≡ true) marks place are.each);
}

-- a part whose mark has no flag is none of the parts
pub none_flagged : (d : Bool) (flags : List Bool) (parts : List Part) (marks : List ℕ) (part : Part) (own slot : ℕ) →
    marks ≡ map mark_of parts → AreFlagged flags marks → own ≡ mark_of part → slot ≡ own % length flags →
    slot < length flags → get_or flags slot d ≡ false → HasNone (views parts) (view_of part)
none_flagged d flags parts marks part own slot e are own_is is inside off_so =
    none_of parts (subst (λ (ms : List ℕ). AllByRecursion (λ m. get_or flags (m % length flags) false ≡ true) ms) e are.each)
  where
    off : get_or flags slot false ≡ false
    off = get_or_default flags slot false d inside ∙ off_so

    none_of : (ps : List Part) → AllByRecursion (λ m. get_or flags (m % length flags) false ≡ true) (map mark_of ps) →
        HasNone (views ps) (view_of part)
    none_of [] all = tt
    none_of (p ∷ ps) all = (one, none_of ps all.1)
      where
        one : view_of p ≡ view_of part → ⊥
        one same = cc (all.0, off, is, own_is, mark_same)
          where
            mark_same : mark_of p ≡ mark_of part
            mark_same = ap (λ (v : PartView). mark_in v) same

-- ---- the same part

pub view_at : (parts : List Part) (k : ℕ) (x : Part) (d : PartView) → k < length parts → x ≡ get_or parts k x →
    get_or (views parts) k d ≡ view_of x
view_at parts k x d less e = get_or-map view_of parts k x d less ∙ sym (ap view_of e)

-- none of the first so many is this one
abbrev pub HasNoneBefore : List PartView → PartView → ℕ → Type 0
HasNoneBefore parts part n = (k : ℕ) (d : PartView) → k < n → get_or parts k d ≡ part → ⊥

pub none_before : (parts : List PartView) (part : PartView) → HasNoneBefore parts part 0
none_before parts part k d less = absurd (omega (arith, less))

module _ (parts : List Part) (part : PartView) (n : ℕ) (none : HasNoneBefore (views parts) part n) where
  pub none_next : (x : Part) → n < length parts → x ≡ get_or parts n x → (view_of x ≡ part → ⊥) →
      HasNoneBefore (views parts) part (n + 1)
  none_next x inside is not k d less = of (cases_eq k n)
    where
      of : (k ≡ n) ⊎ (k ≡ n → ⊥) → get_or (views parts) k d ≡ part → ⊥
      of (inl e) same = not (sym (ap (λ j. get_or (views parts) j d) e ∙ view_at parts n x d inside is) ∙ same)
      of (inr e) same = none k d (omega (arith, less, e)) same

  pub first_same : (x : Part) → n < length parts → x ≡ get_or parts n x → view_of x ≡ part →
      IsFirstSame (views parts) part n
  first_same x inside is same = record {
    within = subst (λ m. n < m) (sym (length-map parts view_of)) inside;
    same = λ d. view_at parts n x d inside is ∙ same;
    before = none;
  }

  pub none_same : length parts ≤ n → HasNone (views parts) part
  none_same all = recursion_from_All (λ v. v ≡ part → ⊥) (views parts)
      (λ k d less. none k d (let e = length-map parts view_of in omega (arith, less, all, e)))

pub marks_long : (parts : List Part) (marks : List ℕ) → marks ≡ map mark_of parts → length marks ≡ length parts
marks_long parts marks e = ap (λ (ms : List ℕ). length ms) e ∙ length-map parts mark_of

-- the parts with other marks are others
module _ (parts : List Part) (marks : List ℕ) (part : Part) (own from : ℕ) (marks_are : marks ≡ map mark_of parts)
    (own_is : own ≡ mark_of part) (none : HasNoneBefore (views parts) (view_of part) from) where
  pub none_between : (to : ℕ) → to ≤ length parts → HasNot marks from own to →
      HasNoneBefore (views parts) (view_of part) to
  none_between to within others k d less same = of (cases_lt k from)
    where
      mark_is : get_or marks k 0 ≡ own
      mark_is = ap (λ (ms : List ℕ). get_or ms k 0) marks_are
          ∙ mark_by_view parts k 0 d (omega (arith, less, within))
          ∙ ap (λ (v : PartView). mark_in v) same ∙ sym own_is

      of : (k < from) ⊎ (from ≤ k) → ⊥
      of (inl l) = none k d l same
      of (inr l) = others k 0 l less mark_is

-- ---- lists

pub same_lists : (xs ys : List Literal) (r : ℕ) → take r xs ≡ take r ys → length xs ≤ r → length ys ≤ r → xs ≡ ys
same_lists xs ys r e a b = sym (take_all r xs a) ∙ e ∙ take_all r ys b

pub not_full : (xs ys : List Literal) (r : ℕ) → r < length xs →
    ((d : Literal) → r < length xs → r < length ys → get_or xs r d ≡ get_or ys r d → ⊥) → xs ≡ ys → ⊥
not_full xs ys r less stops e = stops (record { feature = 0; value = false }) less
    (subst (λ (zs : List Literal). r < length zs) e less)
    (ap (λ (zs : List Literal). get_or zs r (record { feature = 0; value = false })) e)

pub paired_same : (f : ℕ) (left fewer : List Part) (part new : Part) (place : ℕ) →
    IsFirstSame (views left) (view_of part) place → fewer ≡ remove left place →
    view_of new ≡ view_of part → IsPaired f (views left) (view_of part) (views fewer) (view_of new)
paired_same f left fewer part new place first e v =
    inr (place, first, ap (λ (ps : List Part). views ps) e ∙ views_removed left place, v)

-- ---- a list that is changed place by place

one_more : (i : ℕ) → suc i ≡ i + 1
one_more i = omega arith

take_after : (xs : List Part) (i : ℕ) (x : Part) → i < length xs → take (suc i) (slice_set xs i x) ≡ take i xs ++ x ∷ []
take_after [] i x less = absurd (omega (arith, less))
take_after (y ∷ ys) zero x less = refl
take_after (y ∷ ys) (suc i) x less = ap (λ (zs : List Part). y ∷ zs) (take_after ys i x (omega (arith, less)))

drop_after : (xs : List Part) (i : ℕ) (x : Part) → drop (suc i) (slice_set xs i x) ≡ drop (suc i) xs
drop_after [] i x = refl
drop_after (y ∷ ys) zero x = refl
drop_after (y ∷ ys) (suc i) x = drop_after ys i x

pub take_set : (xs : List Part) (i : ℕ) (x : Part) → i < length xs → take (i + 1) (slice_set xs i x) ≡ take i xs ++ x ∷ []
take_set xs i x less = ap (λ n. take n (slice_set xs i x)) (sym (one_more i)) ∙ take_after xs i x less

pub drop_set : (xs : List Part) (i : ℕ) (x : Part) → drop (i + 1) (slice_set xs i x) ≡ drop (i + 1) xs
drop_set xs i x = ap (λ n. drop n (slice_set xs i x)) (sym (one_more i)) ∙ drop_after xs i x
    ∙ ap (λ n. drop n xs) (one_more i)

-- the list that was looked at whole is what is written back
pub written_back : (xs old : List Part) (n : ℕ) → length xs ≡ length old → n ≡ length old →
    take n (xs ++ drop (length xs) old) ≡ xs
written_back xs old n same e =
    ap (λ (ys : List Part). take n (xs ++ ys)) (drop_all (length xs) old (omega (arith, same)))
    ∙ ap (λ (ys : List Part). take n ys) (append-nil xs) ∙ take_all n xs (omega (arith, same, e))

-- ---- one of the parts without the feature after another

module _ (f : ℕ) (parts : List Part) (i : ℕ) (x : Part) (inside : i < length parts) (is : x ≡ get_or parts i x) where
  rest_is : views (drop i parts) ≡ view_of x ∷ views (drop (i + 1) parts)
  rest_is = ap (λ (ps : List Part). views ps)
      (drop_more parts i x inside ∙ ap (λ (p : Part). p ∷ drop (i + 1) parts) (sym is))

  pub joined_head : AreJoined (views (drop i parts)) →
      AllByRecursion (λ other. CanJoin (view_of x) other → ⊥) (views (drop (i + 1) parts))
  joined_head are = head_none (view_of x) (views (drop (i + 1) parts))
      (subst (λ (vs : List PartView). AreJoined vs) rest_is are)

  pub joined_rest : AreJoined (views (drop i parts)) → AreJoined (views (drop (i + 1) parts))
  joined_rest are = tail_joined (view_of x) (views (drop (i + 1) parts))
      (subst (λ (vs : List PartView). AreJoined vs) rest_is are)

  pub behind_both : AreBehind f (views (drop i parts)) →
      IsBehind f (view_of x) × AreBehind f (views (drop (i + 1) parts))
  behind_both all = subst (λ (vs : List PartView). AreBehind f vs) rest_is all

  pub apart_both : (ready : List PartView) → AreApart f ready (views (drop i parts)) →
      IsApart f ready (view_of x) × AreApart f ready (views (drop (i + 1) parts))
  apart_both ready all = subst (λ (vs : List PartView). AreApart f ready vs) rest_is all

  abbrev pub after : Part → List PartView
  after new = views (drop (i + 1) (slice_set parts i new))

  after_is : (new : Part) → after new ≡ views (drop (i + 1) parts)
  after_is new = ap (λ (ps : List Part). views ps) (drop_set parts i new)

  pub joined_next : (new : Part) → AreJoined (views (drop i parts)) → AreJoined (after new)
  joined_next new are = subst (λ (vs : List PartView). AreJoined vs) (sym (after_is new)) (joined_rest are)

  pub behind_next : (new : Part) → AreBehind f (views (drop i parts)) → AreBehind f (after new)
  behind_next new all = subst (λ (vs : List PartView). AreBehind f vs) (sym (after_is new)) (behind_both all).1

  module _ (left fewer ready more : List Part) (new : Part) (pushed : more ≡ ready ++ new ∷ [])
      (paired : IsPaired f (views left) (view_of x) (views fewer) (view_of new))
      (apart : AreApart f (views ready) (views (drop i parts))) (joined : AreJoined (views (drop i parts)))
      (behind : AreBehind f (views (drop i parts))) where
    more_is : views more ≡ views ready ++ view_of new ∷ []
    more_is = ap (λ (ps : List Part). views ps) pushed ∙ map-append view_of ready (new ∷ [])

    pub made_next : (all : List PartView) →
        ArePut (map (cut_by (choice f true)) (views fewer) ++ views more)
        (map (cut_by (choice f false)) (after new)) all →
        ArePut (map (cut_by (choice f true)) (views left) ++ views ready)
        (map (cut_by (choice f false)) (views (drop i parts))) all
    made_next all rest = subst (λ (vs : List PartView). ArePut (map (cut_by (choice f true)) (views left) ++ views ready)
        (map (cut_by (choice f false)) vs) all) (sym rest_is)
        (next (paired_put f (views left) (views fewer) (views ready) (view_of x) (view_of new) paired
        (apart_both (views ready) apart).0 (behind_both behind).0)
        (subst (λ (vs : List PartView). ArePut (map (cut_by (choice f true)) (views fewer) ++ vs)
        (map (cut_by (choice f false)) (views (drop (i + 1) parts))) all) more_is
        (subst (λ (vs : List PartView). ArePut (map (cut_by (choice f true)) (views fewer) ++ views more)
        (map (cut_by (choice f false)) vs) all) (after_is new) rest)))

    pub apart_more : AreApart f (views more) (after new)
    apart_more = subst (λ (vs : List PartView). AreApart f (views more) vs) (sym (after_is new))
        (subst (λ (vs : List PartView). AreApart f vs (views (drop (i + 1) parts))) (sym more_is)
        (apart_next f (views ready) (views (drop (i + 1) parts)) (view_of x) (view_of new)
        (paired_is f (views left) (views fewer) (view_of x) (view_of new) paired) (joined_head joined)
        (behind_both behind).0 (behind_both behind).1 (apart_both (views ready) apart).1))

pub made_end : (f : ℕ) (parts : List Part) (i : ℕ) (all : List PartView) → length parts ≤ i →
    ArePut all (map (cut_by (choice f false)) (views (drop i parts))) all
made_end f parts i all past = subst (λ (ps : List Part). ArePut all (map (cut_by (choice f false)) (views ps)) all)
    (sym (drop_all i parts past)) done

pub made_first : (f : ℕ) (left items old : List Part) (new : List PartView) → items ≡ old →
    ArePut (map (cut_by (choice f true)) (views left) ++ views (take 0 items))
    (map (cut_by (choice f false)) (views (drop 0 items))) new →
    ArePut (map (cut_by (choice f true)) (views left)) (map (cut_by (choice f false)) (views old)) new
made_first f left items old new e put =
    subst (λ (ps : List Part). ArePut (map (cut_by (choice f true)) (views left)) (map (cut_by (choice f false)) (views ps)) new) e
    (subst (λ (vs : List PartView). ArePut vs (map (cut_by (choice f false)) (views items)) new)
    (append-nil (map (cut_by (choice f true)) (views left))) put)

pub joined_first : (items old : List Part) → items ≡ old → AreJoined (views old) → AreJoined (views items)
joined_first items old e are = subst (λ (ps : List Part). AreJoined (views ps)) (sym e) are

pub behind_first : (f : ℕ) (items old : List Part) → items ≡ old → AreBehind f (views old) → AreBehind f (views items)
behind_first f items old e are = subst (λ (ps : List Part). AreBehind f (views ps)) (sym e) are

pub made_last : (f : ℕ) (left items old : List Part) (i n : ℕ) (base added : List PartView) → length items ≤ i →
    length items ≡ length old → n ≡ length old →
    ((new : List PartView) → ArePut (map (cut_by (choice f true)) (views left) ++ views (take i items))
    (map (cut_by (choice f false)) (views (drop i items))) new → ArePut base added new) →
    ArePut base added (map (cut_by (choice f true)) (views left) ++ views (take n (items ++ drop (length items) old)))
made_last f left items old i n base added past same e made =
    subst (λ (ps : List Part). ArePut base added (map (cut_by (choice f true)) (views left) ++ views ps))
    (take_all i items past ∙ sym (written_back items old n same e))
    (made (map (cut_by (choice f true)) (views left) ++ views (take i items))
    (made_end f items i (map (cut_by (choice f true)) (views left) ++ views (take i items)) past))

pub mark_more : (d : Literal) (xs : List Literal) (i m new : ℕ) → i < length xs → new ≡ marked m (get_or xs i d) →
    mark_from new (drop (i + 1) xs) ≡ mark_from m (drop i xs)
mark_more d xs i m new inside e = ap (λ k. mark_from k (drop (i + 1) xs)) e
    ∙ mark_next xs i (get_or xs i d) m inside (get_or_default xs i d (get_or xs i d) inside)

-- ---- numbers

pub no_numbers : (measure : PartView → ℕ) (ready : List Part) → ready ≡ [] → AreNumberedBy measure ready
no_numbers measure ready e = subst (AreNumberedBy measure) (sym e) tt

pub numbers_appended : (measure : PartView → ℕ) (one other all : List Part) → all ≡ one ++ other →
    AreNumberedBy measure one → AreNumberedBy measure other → AreNumberedBy measure all
numbers_appended measure one other all e a b =
    subst (AreNumberedBy measure) (sym e) (All-append (IsNumberedBy measure) one other a b)

module _ (measure : PartView → ℕ) (f : ℕ) where
  abbrev Low : PartView → ℕ
  Low part = measure (cut_by (choice f false) part)

  abbrev High : PartView → ℕ
  High part = measure (cut_by (choice f true) part)

  pub numbers_same : IsAdditive measure → (left fewer : List Part) (part new taken : Part) (place : ℕ) →
      IsFirstSame (views left) (view_of part) place → taken ≡ get_or left place taken → fewer ≡ remove left place →
      new.number ≡ sum_of taken.number part.number → view_of new ≡ view_of part → AreNumberedBy High left →
      IsNumberedBy Low part → AreNumberedBy High fewer × IsNumberedBy measure new
  numbers_same adds left fewer part new taken place first is e n v many one = (
    subst (AreNumberedBy High) (sym e) (All-remove (IsNumberedBy High) left place many),
    subst (λ (x : PartView). IfSome new.number (λ m. m ≡ measure x)) (sym v)
        (sum_is taken.number part.number new.number (High (view_of taken)) (Low (view_of part)) (measure (view_of part))
        (adds (cut_by (choice f true) (view_of taken)) (cut_by (choice f false) (view_of part)) 0 joins) its one n),
  )
    where
      within : place < length left
      within = subst (λ n. place < n) (length-map left view_of) first.within

      same : view_of taken ≡ view_of part
      same = sym (view_at left place taken (view_of taken) within is) ∙ first.same (view_of taken)

      joins : JoinsAt (cut_by (choice f true) (view_of taken)) (cut_by (choice f false) (view_of part)) 0
      joins = subst (λ (x : PartView). JoinsAt (cut_by (choice f true) x) (cut_by (choice f false) (view_of part)) 0)
          (sym same) (own_join f (view_of part))

      its : IsNumberedBy High taken
      its = subst (IsNumberedBy High) (sym is) (All-from_recursion (IsNumberedBy High) left many place taken within)

-- ---- halves of sets

pub halves_joined : (f : ℕ) (with_it without parts : List PartView) → AreHalves f with_it without parts →
    AreJoined with_it → AreJoined without → AreJoined parts
halves_joined f [] without parts e one other = subst (λ (vs : List PartView). AreJoined vs) (sym e) other
halves_joined f (p ∷ ps) [] parts e one other = subst (λ (vs : List PartView). AreJoined vs) (sym e) one
halves_joined f (p ∷ ps) (q ∷ qs) parts put one other =
    all_joined put (cut_joined (choice f true) (p ∷ ps) one)

pub one_joined : (part : PartView) (parts : List PartView) → parts ≡ part ∷ [] → AreJoined parts
one_joined part parts e = subst (λ (vs : List PartView). AreJoined vs) (sym e)
    (λ i j d less within. absurd (omega (arith, less, within)))

pub none_joined : (parts : List Part) → parts ≡ [] → AreJoined (views parts)
none_joined parts e = subst (λ (ps : List Part). AreJoined (views ps)) (sym e)
    (λ i j d less within. absurd (omega (arith, within)))

later_literals : (m f : ℕ) → f < m → (ls : List Literal) → AllByRecursion (λ l. m ≤ l.feature) ls →
    AllByRecursion (λ l. f < l.feature) ls
later_literals m f less [] all = tt
later_literals m f less (l ∷ ls) all = (let a = all.0 in omega (arith, less, a), later_literals m f less ls all.1)

pub later_behind : (m f : ℕ) → f < m → (parts : List PartView) →
    AllByRecursion (λ part. AllByRecursion (λ l. m ≤ l.feature) part.literals) parts → AreBehind f parts
later_behind m f less [] all = tt
later_behind m f less (p ∷ ps) all =
    (later_literals m f less p.literals all.0, later_behind m f less ps all.1)

-- ---- numbers of a list that is changed place by place

pub numbers_rest : (measure : PartView → ℕ) (parts : List Part) (i : ℕ) (x : Part) → i < length parts →
    x ≡ get_or parts i x → AreNumberedBy measure (drop i parts) →
    IsNumberedBy measure x × AreNumberedBy measure (drop (i + 1) parts)
numbers_rest measure parts i x inside is all = subst (AreNumberedBy measure)
    (drop_more parts i x inside ∙ ap (λ (p : Part). p ∷ drop (i + 1) parts) (sym is)) all

pub numbers_set : (measure : PartView → ℕ) (parts : List Part) (i : ℕ) (new : Part) → i < length parts →
    AreNumberedBy measure (take i parts) → IsNumberedBy measure new →
    AreNumberedBy measure (take (i + 1) (slice_set parts i new))
numbers_set measure parts i new inside all one =
    numbers_appended measure (take i parts) (new ∷ []) (take (i + 1) (slice_set parts i new))
    (take_set parts i new inside) all (one, tt)

pub numbers_left : (measure : PartView → ℕ) (parts : List Part) (i : ℕ) (new : Part) →
    AreNumberedBy measure (drop (i + 1) parts) → AreNumberedBy measure (drop (i + 1) (slice_set parts i new))
numbers_left measure parts i new all = subst (AreNumberedBy measure) (sym (drop_set parts i new)) all

-- ---- a literal is put at the front of each

pub cut_each_next : (literal : Literal) (parts : List Part) (i : ℕ) (x new : Part) → i < length parts →
    x ≡ get_or parts i x → view_of new ≡ cut_by literal (view_of x) →
    views (take (i + 1) (slice_set parts i new)) ++ map (cut_by literal) (views (drop (i + 1) (slice_set parts i new)))
    ≡ views (take i parts) ++ map (cut_by literal) (views (drop i parts))
cut_each_next literal parts i x new inside is v =
    ap (λ (ps : List Part). views ps ++ map (cut_by literal) (views (drop (i + 1) (slice_set parts i new))))
    (take_set parts i new inside)
    ∙ ap (λ (ps : List Part). views (take i parts ++ new ∷ []) ++ map (cut_by literal) (views ps)) (drop_set parts i new)
    ∙ ap (λ (vs : List PartView). vs ++ map (cut_by literal) (views (drop (i + 1) parts)))
    (map-append view_of (take i parts) (new ∷ []))
    ∙ append_assoc (views (take i parts)) (view_of new ∷ []) (map (cut_by literal) (views (drop (i + 1) parts)))
    ∙ ap (λ (w : PartView). views (take i parts) ++ w ∷ map (cut_by literal) (views (drop (i + 1) parts))) v
    ∙ ap (λ (ps : List Part). views (take i parts) ++ map (cut_by literal) (views ps))
    (sym (drop_more parts i x inside ∙ ap (λ (p : Part). p ∷ drop (i + 1) parts) (sym is)))

pub numbers_last : (measure : PartView → ℕ) (items old : List Part) (i n : ℕ) → length items ≤ i →
    length items ≡ length old → n ≡ length old → AreNumberedBy measure (take i items) →
    AreNumberedBy measure (take n (items ++ drop (length items) old))
numbers_last measure items old i n past same e all = subst (AreNumberedBy measure)
    (take_all i items past ∙ sym (written_back items old n same e)) all

pub numbers_first : (measure : PartView → ℕ) (items old : List Part) → items ≡ old → AreNumberedBy measure old →
    AreNumberedBy measure items
numbers_first measure items old e all = subst (AreNumberedBy measure) (sym e) all

pub number_here : (measure : PartView → ℕ) (literal : Literal) (parts : List Part) (i : ℕ) (x new : Part) →
    x ≡ get_or parts i x → new.number ≡ (get_or parts i x).number →
    view_of new ≡ cut_by literal (view_of (get_or parts i x)) → IsNumberedBy (λ p. measure (cut_by literal p)) x →
    IsNumberedBy measure new
number_here measure literal parts i x new is n v one =
    subst (λ (w : PartView). IfSome new.number (λ m. m ≡ measure w)) (sym v)
    (subst (λ (o : Option ℕ). IfSome o (λ m. m ≡ measure (cut_by literal (view_of (get_or parts i x))))) (sym n)
    (subst (λ (p : Part). IsNumberedBy (λ q. measure (cut_by literal q)) p) is one))
