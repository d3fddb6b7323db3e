-- Names and their places.
use Rattle.std.proofs.Common.{◌≡◌, ℕ, zero, suc, ◌+◌, ◌<◌, nat_le, is_none, Bool, true, false, not, ◌&&◌, cond, List, [], ◌∷◌, ◌++◌, length, map, Option, Some, None, slice_get, is_some, option_map, bytes_eq, ◌⊎◌, inl, inr, refl, sym, ap, ◌∙◌, subst, arith, append_assoc, append-nil}
use Rattle.std.specs.List.{AllByRecursion, list_all, range_with_len}
use Rattle.vpg_diagram.proofs.Lists.{All-implies}
use Rattle.std.specs.Cmp.Lexicographic.{bytes_decides}
use Rattle.std.proofs.lemmas.Bool.{cases_Bool, both_ways, leb-true, le-leb}
use Rattle.std.proofs.lemmas.List.{get_or_append_left, get_or-append-add}
use Rattle.std.proofs.lemmas.Option.{slice_get_within, get_or_from_slice_get}
use Rattle.vpg_features.specs.Names.{starts_as_name, is_name_byte, constant_of, IsFeatureName, AreDistinct, EachIsName}
use Rattle.vpg_diagram.specs.DiagramText.{name_of}
use Rattle.vpg_diagram.specs.DiagramReading.{is_feature_name, place_of_name, are_new}

-- no two of these are the same, by their places
abbrev pub AreApart : List (List ℕ) → Type 0
AreApart names = (i j : ℕ) (name : List ℕ) → slice_get names i ≡ Some name → slice_get names j ≡ Some name → i ≡ j

pub apart_from_distinct : (names : List (List ℕ)) → AreDistinct names → AreApart names
apart_from_distinct [] d i j name a b = absurd (cc)
apart_from_distinct (n ∷ ns) d zero zero name a b = refl
apart_from_distinct (n ∷ ns) d zero (suc j) name a b = absurd (d.0 j (b ∙ sym a))
apart_from_distinct (n ∷ ns) d (suc i) zero name a b = absurd (d.0 i (a ∙ sym b))
apart_from_distinct (n ∷ ns) d (suc i) (suc j) name a b = ap suc (apart_from_distinct ns d.1 i j name a b)

pub distinct_from_apart : (names : List (List ℕ)) → AreApart names → AreDistinct names
distinct_from_apart [] a = tt
distinct_from_apart (n ∷ ns) a =
    (λ i e. absurd (let w : 0 ≡ suc i = a 0 (suc i) n refl e in omega (arith, w)), distinct_from_apart ns (λ i j name p q. let w : suc i ≡ suc j = a (suc i) (suc j) name p q in omega (arith, w)))

-- the test for a feature name
and_split : (a b : Bool) → (a && b) ≡ true → (a ≡ true) × (b ≡ true)
and_split true b e = (refl, e)
and_split false b e = absurd (cc)

none_from_test : {A : Type 0} (o : Option A) → is_none o ≡ true → o ≡ None
none_from_test None e = refl
none_from_test (Some x) e = absurd (cc)

pub name_from_test : (w : List ℕ) → is_feature_name w ≡ true → IsFeatureName w
name_from_test w e =
    let x = and_split (starts_as_name w && list_all is_name_byte w && nat_le (length w) 64) (is_none (constant_of w)) e in
    let y = and_split (starts_as_name w && list_all is_name_byte w) (nat_le (length w) 64) x.0 in
    let z = and_split (starts_as_name w) (list_all is_name_byte w) y.0 in
    record { start = z.0; bytes = z.1; short = leb-true (length w) 64 y.1; no_constant = none_from_test (constant_of w) x.1 }

pub test_from_name : (w : List ℕ) → IsFeatureName w → is_feature_name w ≡ true
test_from_name w n =
    ap (λ b. b && list_all is_name_byte w && nat_le (length w) 64 && is_none (constant_of w)) n.start
    ∙ (ap (λ b. b && nat_le (length w) 64 && is_none (constant_of w)) n.bytes
    ∙ (ap (λ b. b && is_none (constant_of w)) (le-leb (length w) 64 n.short) ∙ ap is_none n.no_constant))

pub names_from_tests : (ws : List (List ℕ)) → AllByRecursion (λ w. is_feature_name w ≡ true) ws → AllByRecursion IsFeatureName ws
names_from_tests ws a = All-implies (λ w. is_feature_name w ≡ true) IsFeatureName ws name_from_test a

pub tests_from_names : (ws : List (List ℕ)) → AllByRecursion IsFeatureName ws → AllByRecursion (λ w. is_feature_name w ≡ true) ws
tests_from_names ws a = All-implies IsFeatureName (λ w. is_feature_name w ≡ true) ws test_from_name a

pub each_from_all : (ws : List (List ℕ)) → AllByRecursion IsFeatureName ws → EachIsName ws
each_from_all [] a = tt
each_from_all (w ∷ ws) a = (a.0, each_from_all ws a.1)

pub eq_same : (a b : List ℕ) → bytes_eq a b ≡ true → a ≡ b
eq_same a b e = (bytes_decides a b).0 e

pub same_eq : (a b : List ℕ) → a ≡ b → bytes_eq a b ≡ true
same_eq a b e = (bytes_decides a b).1 e

map_suc_some : (o : Option ℕ) (i : ℕ) → option_map suc o ≡ Some i → (k : ℕ) × (o ≡ Some k) × (i ≡ suc k)
map_suc_some None i e = absurd (cc)
map_suc_some (Some k) i e = let r : suc k ≡ i = cc in (k, refl, sym r)

map_suc_none : (o : Option ℕ) → option_map suc o ≡ None → o ≡ None
map_suc_none None e = refl
map_suc_none (Some k) e = absurd (cc)

pub place_some : (names : List (List ℕ)) (name : List ℕ) (i : ℕ) → place_of_name names name ≡ Some i → slice_get names i ≡ Some name
place_some [] name i e = absurd (cc)
place_some (n ∷ ns) name i e = go (cases_Bool (bytes_eq name n)) (place_some ns name)
  where
    go : (bytes_eq name n ≡ true) ⊎ (bytes_eq name n ≡ false) → ((k : ℕ) → place_of_name ns name ≡ Some k → slice_get ns k ≡ Some name) → slice_get (n ∷ ns) i ≡ Some name
    go (inl t) f =
        let r : Some 0 ≡ Some i = sym (ap (λ b. cond b (Some 0) (option_map suc (place_of_name ns name))) t) ∙ e in
        let z : 0 ≡ i = cc in
        subst (λ (k : ℕ). slice_get (n ∷ ns) k ≡ Some name) z (ap Some (sym (eq_same name n t)))
    go (inr t) f =
        let r = map_suc_some (place_of_name ns name) i (sym (ap (λ b. cond b (Some 0) (option_map suc (place_of_name ns name))) t) ∙ e) in
        subst (λ (k : ℕ). slice_get (n ∷ ns) k ≡ Some name) (sym r.2) (f r.0 r.1)

pub place_none : (names : List (List ℕ)) (name : List ℕ) → place_of_name names name ≡ None → (i : ℕ) → slice_get names i ≡ Some name → ⊥
place_none [] name e i s = absurd (cc)
place_none (n ∷ ns) name e i s = go (cases_Bool (bytes_eq name n)) (place_none ns name) i s
  where
    go : (bytes_eq name n ≡ true) ⊎ (bytes_eq name n ≡ false) → (place_of_name ns name ≡ None → (i : ℕ) → slice_get ns i ≡ Some name → ⊥) → (i : ℕ) → slice_get (n ∷ ns) i ≡ Some name → ⊥
    go (inl t) f i s = let r : ◌≡◌ {A = Option ℕ} (Some 0) None = sym (ap (λ b. cond b (Some 0) (option_map suc (place_of_name ns name))) t) ∙ e in absurd (cc)
    go (inr t) f zero s = let r : n ≡ name = cc in absurd (both_ways (bytes_eq name n) t (same_eq name n (sym r)))
    go (inr t) f (suc i) s = f (map_suc_none (place_of_name ns name) (sym (ap (λ b. cond b (Some 0) (option_map suc (place_of_name ns name))) t) ∙ e)) i s

-- in a list of different names each name is found at its place
pub place_found : (names : List (List ℕ)) (name : List ℕ) (i : ℕ) → AreApart names → slice_get names i ≡ Some name → place_of_name names name ≡ Some i
place_found names name i d s = go (place_of_name names name) refl
  where
    go : (o : Option ℕ) → place_of_name names name ≡ o → place_of_name names name ≡ Some i
    go None e = absurd (place_none names name e i s)
    go (Some k) e = e ∙ ap Some (d k i name (place_some names name k e) s)

-- places in a list that is joined of two
slice_get_left : (xs ys : List (List ℕ)) (i : ℕ) (x : List ℕ) → slice_get xs i ≡ Some x → slice_get (xs ++ ys) i ≡ Some x
slice_get_left [] ys i x e = absurd (cc)
slice_get_left (y ∷ xs) ys zero x e = e
slice_get_left (y ∷ xs) ys (suc i) x e = slice_get_left xs ys i x e

slice_get_at_end : (xs : List (List ℕ)) (y : List ℕ) (ys : List (List ℕ)) → slice_get (xs ++ y ∷ ys) (length xs) ≡ Some y
slice_get_at_end [] y ys = refl
slice_get_at_end (x ∷ xs) y ys = slice_get_at_end xs y ys

-- a place in a list with one more element
slice_get_push : (xs : List (List ℕ)) (y : List ℕ) (i : ℕ) (x : List ℕ) → slice_get (xs ++ y ∷ []) i ≡ Some x → (slice_get xs i ≡ Some x) ⊎ ((i ≡ length xs) × (x ≡ y))
slice_get_push [] y zero x e = let r : y ≡ x = cc in inr (refl, sym r)
slice_get_push [] y (suc i) x e = absurd (cc)
slice_get_push (z ∷ xs) y zero x e = inl e
slice_get_push (z ∷ xs) y (suc i) x e = go (slice_get_push xs y i x e)
  where
    go : (slice_get xs i ≡ Some x) ⊎ ((i ≡ length xs) × (x ≡ y)) → (slice_get (z ∷ xs) (suc i) ≡ Some x) ⊎ ((suc i ≡ length (z ∷ xs)) × (x ≡ y))
    go (inl s) = inl s
    go (inr s) = inr (ap suc s.0, s.1)

pub distinct_front : (xs ys : List (List ℕ)) → AreApart (xs ++ ys) → AreApart xs
distinct_front xs ys d i j name a b = d i j name (slice_get_left xs ys i name a) (slice_get_left xs ys j name b)

distinct_push : (xs : List (List ℕ)) (y : List ℕ) → AreApart xs → place_of_name xs y ≡ None → AreApart (xs ++ y ∷ [])
distinct_push xs y d e i j name a b = go (slice_get_push xs y i name a) (slice_get_push xs y j name b)
  where
    go : (slice_get xs i ≡ Some name) ⊎ ((i ≡ length xs) × (name ≡ y)) → (slice_get xs j ≡ Some name) ⊎ ((j ≡ length xs) × (name ≡ y)) → i ≡ j
    go (inl p) (inl q) = d i j name p q
    go (inl p) (inr q) = absurd (place_none xs y e i (p ∙ ap Some q.1))
    go (inr p) (inl q) = absurd (place_none xs y e j (q ∙ ap Some p.1))
    go (inr p) (inr q) = p.0 ∙ sym q.0

not_some : (o : Option ℕ) → not (is_some o) ≡ true → o ≡ None
not_some None e = refl
not_some (Some x) e = absurd (cc)

and_parts : (a b : Bool) → (a && b) ≡ true → (a ≡ true) × (b ≡ true)
and_parts true b e = (refl, e)
and_parts false b e = absurd (cc)

and_both : (a b : Bool) → a ≡ true → b ≡ true → (a && b) ≡ true
and_both a b p q = ap (λ x. x && b) p ∙ q

push_append : (xs : List (List ℕ)) (y : List ℕ) (ys : List (List ℕ)) → (xs ++ y ∷ []) ++ ys ≡ xs ++ y ∷ ys
push_append xs y ys = append_assoc xs (y ∷ []) ys

pub new_to_distinct : (names cs : List (List ℕ)) → AreApart names → are_new names cs ≡ true → AreApart (names ++ cs)
new_to_distinct names [] d e = subst AreApart (sym (append-nil names)) d
new_to_distinct names (c ∷ cs) d e =
    let p = and_parts (not (is_some (place_of_name names c))) (are_new (names ++ c ∷ []) cs) e in
    subst AreApart (push_append names c cs) (new_to_distinct (names ++ c ∷ []) cs (distinct_push names c d (not_some (place_of_name names c) p.0)) p.1)

pub distinct_to_new : (names cs : List (List ℕ)) → AreApart (names ++ cs) → are_new names cs ≡ true
distinct_to_new names [] d = refl
distinct_to_new names (c ∷ cs) d =
    and_both (not (is_some (place_of_name names c))) (are_new (names ++ c ∷ []) cs) (go (place_of_name names c) refl)
    (distinct_to_new (names ++ c ∷ []) cs (subst AreApart (sym (push_append names c cs)) d))
  where
    go : (o : Option ℕ) → place_of_name names c ≡ o → not (is_some (place_of_name names c)) ≡ true
    go None e = ap (λ o. not (is_some o)) e
    go (Some i) e =
        let s : slice_get names i ≡ Some c = place_some names c i e in
        let w : i ≡ length names = d i (length names) c (slice_get_left names (c ∷ cs) i c s) (slice_get_at_end names c cs) in
        let l : i < length names = slice_get_within names i c s in
        absurd (omega arith)

-- the names of the places behind a list
pub names_of_range : (names cs more : List (List ℕ)) → map (name_of (names ++ (cs ++ more))) (range_with_len (length names) (length cs)) ≡ cs
names_of_range names [] more = refl
names_of_range names (c ∷ cs) more =
    let first : name_of (names ++ (c ∷ (cs ++ more))) (length names) ≡ c = get_or_from_slice_get (names ++ c ∷ (cs ++ more)) (length names) c [] (slice_get_at_end names c (cs ++ more)) in
    let e : length (names ++ c ∷ []) ≡ length names + 1 = Rattle.std.proofs.lemmas.List.length_push names c in
    let rest = names_of_range (names ++ c ∷ []) cs more in
    let rest2 : map (name_of (names ++ c ∷ (cs ++ more))) (range_with_len (length names + 1) (length cs)) ≡ cs =
    subst (λ (k : ℕ). map (name_of (names ++ c ∷ (cs ++ more))) (range_with_len k (length cs)) ≡ cs) e
    (subst (λ (xs : List (List ℕ)). map (name_of xs) (range_with_len (length (names ++ c ∷ [])) (length cs)) ≡ cs) (push_append names c (cs ++ more)) rest) in
    cc

pub name_before : (names more : List (List ℕ)) (p : ℕ) → p < length names → name_of (names ++ more) p ≡ name_of names p
name_before names more p l = get_or_append_left names more [] p l
