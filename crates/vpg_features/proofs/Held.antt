-- Names that are held, and where.
use Rattle.std.proofs.Common.{◌≡◌, ℕ, zero, suc, ◌+◌, ◌<◌, Bool, true, false, cond, ltb, List, [], ◌∷◌, ◌++◌, length, map, Option, Some, None, slice_get, position, refl, sym, ap, subst, ◌∙◌, arith}
use Rattle.std.specs.Prelude.{not, ◌&&◌}
use Rattle.std.specs.List.{list_all, list_any, position_or_len}
use Rattle.std.specs.Str.{bytes_eq, IsAscii, IsUtf8}
use Rattle.std.proofs.lemmas.Bool.{ltb-true, lt-ltb}
use Rattle.std.proofs.lemmas.Bool.Decides.{nat_tests}
use Rattle.std.proofs.lemmas.List.{length-append, length-map, map-append, map-id}
use Rattle.std.proofs.lemmas.Option.{slice_get_within}
use Rattle.std.proofs.lemmas.Slice.Eq.{bytes_eq-Decides}
use Rattle.std.proofs.lemmas.Str.{IsUtf8-from_ascii}
use Rattle.std.proofs.lemmas.Str.Ascii.{IsAscii-nil, IsAscii-cons}
use Rattle.vpg_features.specs.Names.{index_of, is_name_byte, IsFeatureName, Lacks, AreDistinct, EachIsName, AreNames, IsNew}

-- ---- names are text

small_byte : (b : ℕ) → is_name_byte b ≡ true → b < 128
small_byte b e = grind (arith, nat_tests)

pub both_true : (a b : Bool) → (a && b) ≡ true → (a ≡ true) × (b ≡ true)
both_true true b e = (refl, e)
both_true false b e = absurd cc

ascii_bytes : (bs : List ℕ) → list_all is_name_byte bs ≡ true → IsAscii bs
ascii_bytes [] e = IsAscii-nil
ascii_bytes (b ∷ bs) e =
    let h = both_true (is_name_byte b) (list_all is_name_byte bs) e in
    IsAscii-cons b bs (small_byte b h.0) (ascii_bytes bs h.1)

pub name_is_text : (name : List ℕ) → IsFeatureName name → IsUtf8 name
name_is_text name is = IsUtf8-from_ascii name (ascii_bytes name is.bytes)

pub held_is_name : (names : List (List ℕ)) (i : ℕ) (name : List ℕ) → EachIsName names → slice_get names i ≡ Some name → IsFeatureName name
held_is_name [] i name each e = absurd cc
held_is_name (n ∷ names) zero name each e = let same : n ≡ name = cc in subst IsFeatureName same each.0
held_is_name (n ∷ names) (suc i) name each e = held_is_name names i name each.1 e

-- ---- places

pub same_bytes : (a b : List ℕ) → a ≡ b → bytes_eq a b ≡ true
same_bytes a b e = (bytes_eq-Decides a b).1 e

pub eq_bytes : (a b : List ℕ) → bytes_eq a b ≡ true → a ≡ b
eq_bytes a b e = (bytes_eq-Decides a b).0 e

pub other_bytes : (a b : List ℕ) → (a ≡ b → ⊥) → bytes_eq a b ≡ false
other_bytes a b ne = go (bytes_eq a b) refl
  where
    go : (t : Bool) → bytes_eq a b ≡ t → t ≡ false
    go true e = absurd (ne (eq_bytes a b e))
    go false e = refl

-- the index of the first key of that name
abbrev pub index_in : {A : Type 0} → (A → List ℕ) → List ℕ → List A → ℕ
index_in f name keys = position_or_len (λ k. bytes_eq name (f k)) keys

pub index_within : {A : Type 0} (f : A → List ℕ) (name : List ℕ) (keys : List A) → index_in f name keys < length keys → slice_get (map f keys) (index_in f name keys) ≡ Some name
index_within f name [] lt = absurd (omega arith)
index_within f name (k ∷ keys) lt = go (bytes_eq name (f k)) refl (index_within f name keys) lt
  where
    go : (t : Bool) → bytes_eq name (f k) ≡ t → (index_in f name keys < length keys → slice_get (map f keys) (index_in f name keys) ≡ Some name)
        → cond (not t) (1 + index_in f name keys) 0 < suc (length keys) → slice_get (f k ∷ map f keys) (cond (not t) (1 + index_in f name keys) 0) ≡ Some name
    go true e later lt = ap (λ (n : List ℕ). Some n) (sym (eq_bytes name (f k) e))
    go false e later lt = let one : 1 + index_in f name keys ≡ suc (index_in f name keys) = omega arith in rw one (later (omega arith))

pub index_held : {A : Type 0} (f : A → List ℕ) (name : List ℕ) (keys : List A) (i : ℕ) → AreDistinct (map f keys) → slice_get (map f keys) i ≡ Some name → index_in f name keys ≡ i
index_held f name [] i distinct e = absurd cc
index_held f name (k ∷ keys) zero distinct e =
    let same : name ≡ f k = cc in
    let t = same_bytes name (f k) same in
    rw t refl
index_held f name (k ∷ keys) (suc i) distinct e =
    let t : bytes_eq name (f k) ≡ false = other_bytes name (f k) (λ same. distinct.0 i (e ∙ ap (λ (n : List ℕ). Some n) same)) in
    let here = index_held f name keys i distinct.1 e in
    rw t (omega arith)

some_from : (b : Bool) (i j : ℕ) → cond b (Some i) None ≡ Some j → (b ≡ true) × (i ≡ j)
some_from true i j e = (refl, cc)
some_from false i j e = absurd cc

-- the answer of a search by name is a place of the name
pub found_name : {A : Type 0} (f : A → List ℕ) (name : List ℕ) (keys : List A) (i : ℕ) → position (λ k. bytes_eq name (f k)) keys ≡ Some i → slice_get (map f keys) i ≡ Some name
found_name f name keys i e =
    let h = some_from (ltb (index_in f name keys) (length keys)) (index_in f name keys) i e in
    rw (← h.1) (index_within f name keys (ltb-true _ _ h.0))

-- and a name that is held is found at its place
pub held_found : {A : Type 0} (f : A → List ℕ) (name : List ℕ) (keys : List A) (i : ℕ) → AreDistinct (map f keys) → slice_get (map f keys) i ≡ Some name → position (λ k. bytes_eq name (f k)) keys ≡ Some i
held_found f name keys i distinct e =
    let here = index_held f name keys i distinct e in
    let within : i < length (map f keys) = slice_get_within (map f keys) i name e in
    let len : length (map f keys) ≡ length keys = length-map keys f in
    let lt : index_in f name keys < length keys = omega arith in
    let yes : ltb (index_in f name keys) (length keys) ≡ true = lt-ltb _ _ lt in
    rw (yes, here) refl

-- ---- one name more

lacks_one : (names : List (List ℕ)) (n name : List ℕ) → Lacks names n → (n ≡ name → ⊥) → Lacks (names ++ name ∷ []) n
lacks_one [] n name lacks ne zero e = ne cc
lacks_one [] n name lacks ne (suc i) e = absurd cc
lacks_one (m ∷ names) n name lacks ne zero e = lacks zero e
lacks_one (m ∷ names) n name lacks ne (suc i) e = lacks_one names n name (λ j. lacks (suc j)) ne i e

distinct_more : (names : List (List ℕ)) (name : List ℕ) → AreDistinct names → Lacks names name → AreDistinct (names ++ name ∷ [])
distinct_more [] name distinct lacks = ((λ i e. cc), tt)
distinct_more (n ∷ names) name distinct lacks = (
  lacks_one names n name distinct.0 (λ same. lacks zero (ap (λ (m : List ℕ). Some m) same)),
  distinct_more names name distinct.1 (λ j. lacks (suc j)),
)

each_more : (names : List (List ℕ)) (name : List ℕ) → EachIsName names → IsFeatureName name → EachIsName (names ++ name ∷ [])
each_more [] name each is = (is, tt)
each_more (n ∷ names) name each is = (each.0, each_more names name each.1 is)

pub names_more : (names : List (List ℕ)) (name : List ℕ) → AreNames names → IsNew names name → length names < 512 → AreNames (names ++ name ∷ [])
names_more names name are new few = record {
  each = each_more names name are.each new.is_name;
  distinct = distinct_more names name are.distinct new.absent;
  few = omega (arith, length-append names (name ∷ []));
}

none_equal : {A : Type 0} (f : A → List ℕ) (keys : List A) (name : List ℕ) → Lacks (map f keys) name → list_any (λ k. bytes_eq name (f k)) keys ≡ false
none_equal f [] name lacks = refl
none_equal f (k ∷ keys) name lacks =
    let t = other_bytes name (f k) (λ same. lacks zero (ap (λ (n : List ℕ). Some n) (sym same))) in
    rw t (none_equal f keys name (λ i. lacks (suc i)))

-- the keys after a new one is inserted
pub inserted : {A : Type 0} (f : A → List ℕ) (keys : List A) (k : A) (name : List ℕ) → f k ≡ name → Lacks (map f keys) name → map f (cond (list_any (λ x. bytes_eq (f k) (f x)) keys) keys (keys ++ k ∷ [])) ≡ map f keys ++ name ∷ []
inserted f keys k name is lacks =
    let none = none_equal f keys (f k) (subst (Lacks (map f keys)) (sym is) lacks) in
    rw none (map-append f keys (k ∷ []) ∙ ap (λ (n : List ℕ). map f keys ++ n ∷ []) is)

pub lacks_from : (names : List (List ℕ)) (name : List ℕ) (r : Option ℕ) → r ≡ None → ((i : ℕ) → slice_get names i ≡ Some name → r ≡ Some i) → Lacks names name
lacks_from names name r none held i e = let h = held i e in cc

-- ---- the index of a name

pub index_of_held : (names : List (List ℕ)) (name : List ℕ) (i : ℕ) → AreDistinct names → slice_get names i ≡ Some name → index_of names name ≡ Some i
index_of_held names name i distinct e =
    held_found (λ (n : List ℕ). n) name names i (subst AreDistinct (sym (map-id names)) distinct) (ap (λ (ns : List (List ℕ)). slice_get ns i) (map-id names) ∙ e)

pub index_of_found : (names : List (List ℕ)) (name : List ℕ) (i : ℕ) → index_of names name ≡ Some i → slice_get names i ≡ Some name
index_of_found names name i e = subst (λ (ns : List (List ℕ)). slice_get ns i ≡ Some name) (map-id names) (found_name (λ (n : List ℕ). n) name names i e)

pub index_of_lacks : (names : List (List ℕ)) (name : List ℕ) → Lacks names name → index_of names name ≡ None
index_of_lacks names name lacks = go (index_of names name) (index_of_found names name)
  where
    go : (o : Option ℕ) → ((i : ℕ) → o ≡ Some i → slice_get names i ≡ Some name) → o ≡ None
    go None found = refl
    go (Some i) found = absurd (lacks i (found i refl))

pub none_is_some : (i : ℕ) → None ≡ Some i → ⊥
none_is_some i e = cc
