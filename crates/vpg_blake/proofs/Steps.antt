-- The steps of the code, on lists.
use Rattle.std.proofs.Common.{◌≡◌, ℕ, zero, suc, ◌+◌, ◌-◌, ◌/◌, ◌<◌, ◌≤◌, Bool, true, false, List, [], ◌∷◌, ◌++◌, length, take, drop, get_or, refl, sym, ap, ap₂, subst, ◌∙◌, arith, append_assoc, replicate}
use Rattle.std.proofs.lemmas.Bool.Decides.{Decides-eqb}
use Rattle.std.proofs.lemmas.List.{drop_more, drop_all, length-map, length-replicate}
use Rattle.std.specs.Prelude.{Result, Ok, Err, IfOk, All, not, ◌||◌, filter, find, cond, nat_eq, Option, Some, None, MatchOption}
use Rattle.std.specs.List.{list_any, range_with_len}
use Rattle.std.specs.Cmp.Lexicographic.{pointwise}
use Rattle.std.specs.Global.{Vec}
use Rattle.vpg_guards.specs.Formula.{Formula, Parts, all, any, no_parts, part}
use Rattle.vpg_guards.specs.Grammar.{joined}
use Rattle.vpg_guards.specs.View.{formula_of, formulas_of}
use Rattle.vpg_guards.specs.declared.guard.Guard.{Guard}
use Rattle.vpg_blake.specs.Blake.{Cube, cubes_in, is_same_literal, has_cube, unshared, with_literal, merged, literal_formula, literal_parts, cube_formula, cube_parts, and_of, or_of, named_below, prime_implicants, blake, IsShort}
use Rattle.vpg_blake.specs.Tables.{table_from, both_true, table_implicants}
use Rattle.vpg_blake.specs.declared.literal.Literal.{Literal}
use Rattle.vpg_blake.proofs.Cubes.{literal}
use Rattle.vpg_blake.proofs.Primes.{EachNumber}
use Rattle.vpg_blake.proofs.Named.{features_below}
use Rattle.vpg_blake.proofs.Rows.{guard_implicants, same_halves}

-- ---- guards of lists

pub several_all : (items : List Guard) → 1 < length items → and_of (formulas_of items) ≡ all (formulas_of items)
several_all [] lt = absurd (omega arith)
several_all (g ∷ []) lt = absurd (omega arith)
several_all (g ∷ h ∷ gs) lt = refl

pub several_any : (items : List Guard) → 1 < length items → or_of (formulas_of items) ≡ any (formulas_of items)
several_any [] lt = absurd (omega arith)
several_any (g ∷ []) lt = absurd (omega arith)
several_any (g ∷ h ∷ gs) lt = refl

pushed : (items : List Guard) (g : Guard) (ps : Parts) → joined (formulas_of (items ++ g ∷ [])) ps ≡ joined (formulas_of items) (part (formula_of g) ps)
pushed [] g ps = refl
pushed (h ∷ hs) g ps = ap (part (formula_of h)) (pushed hs g ps)

joined_none : (gs : Parts) → joined gs no_parts ≡ gs
joined_none no_parts = refl
joined_none (part g gs) = ap (part g) (joined_none gs)

pub literal_step : (items more : List Guard) (g : Guard) (c : Cube) (i : ℕ) (d : Literal) → i < length c
    → more ≡ items ++ g ∷ [] → formula_of g ≡ literal_formula (get_or c i d)
    → joined (formulas_of more) (literal_parts (drop (i + 1) c)) ≡ joined (formulas_of items) (literal_parts (drop i c))
literal_step items more g c i d lt made same =
    ap (λ (gs : List Guard). joined (formulas_of gs) (literal_parts (drop (i + 1) c))) made
    ∙ pushed items g (literal_parts (drop (i + 1) c))
    ∙ ap (λ (f : Formula). joined (formulas_of items) (part f (literal_parts (drop (i + 1) c)))) same
    ∙ ap (λ (e : Cube). joined (formulas_of items) (literal_parts e)) (sym (drop_more c i d lt))

pub literals_done : (items : List Guard) (c : Cube) (i : ℕ) (whole : Parts) → length c ≤ i → joined (formulas_of items) (literal_parts (drop i c)) ≡ whole → formulas_of items ≡ whole
literals_done items c i whole le e =
    let nothing : drop i c ≡ [] = drop_all i c le in
    sym (joined_none (formulas_of items)) ∙ ap (λ (d : Cube). joined (formulas_of items) (literal_parts d)) (sym nothing) ∙ e

pub cube_step : (items more : List Guard) (g : Guard) (cs : List (Vec Literal)) (i : ℕ) (v : Vec Literal) → i < length cs → v ≡ get_or cs i v
    → more ≡ items ++ g ∷ [] → formula_of g ≡ cube_formula v.items
    → joined (formulas_of more) (cube_parts (cubes_in (drop (i + 1) cs))) ≡ joined (formulas_of items) (cube_parts (cubes_in (drop i cs)))
cube_step items more g cs i v lt is made same =
    let here : drop i cs ≡ v ∷ drop (i + 1) cs = drop_more cs i v lt ∙ ap (λ (w : Vec Literal). w ∷ drop (i + 1) cs) (sym is) in
    ap (λ (gs : List Guard). joined (formulas_of gs) (cube_parts (cubes_in (drop (i + 1) cs)))) made
    ∙ pushed items g (cube_parts (cubes_in (drop (i + 1) cs)))
    ∙ ap (λ (f : Formula). joined (formulas_of items) (part f (cube_parts (cubes_in (drop (i + 1) cs))))) same
    ∙ ap (λ (d : List (Vec Literal)). joined (formulas_of items) (cube_parts (cubes_in d))) (sym here)

pub cubes_done : (items : List Guard) (cs : List (Vec Literal)) (i : ℕ) (whole : Parts) → length cs ≤ i
    → joined (formulas_of items) (cube_parts (cubes_in (drop i cs))) ≡ whole → formulas_of items ≡ whole
cubes_done items cs i whole le e =
    let nothing : drop i cs ≡ [] = drop_all i cs le in
    sym (joined_none (formulas_of items)) ∙ ap (λ (d : List (Vec Literal)). joined (formulas_of items) (cube_parts (cubes_in d))) (sym nothing) ∙ e

-- ---- the features that a guard names

pub found_is : (xs : List ℕ) (f h : ℕ) → find (λ y. nat_eq y f) xs ≡ Some h → nat_eq h f ≡ true
found_is [] f h e = absurd cc
found_is (x ∷ xs) f h e = at (nat_eq x f) refl (found_is xs f h) e
  where
    at : (b : Bool) → nat_eq x f ≡ b → (find (λ y. nat_eq y f) xs ≡ Some h → nat_eq h f ≡ true) → cond b (Some x) (find (λ y. nat_eq y f) xs) ≡ Some h → nat_eq h f ≡ true
    at true is rest e =
        let same : x ≡ h = cc in
        subst (λ (y : ℕ). nat_eq y f ≡ true) same is
    at false is rest e = rest e

pub found_any : (test : ℕ → Bool) (xs : List ℕ) (h : ℕ) → find test xs ≡ Some h → list_any test xs ≡ true
found_any test [] h e = absurd cc
found_any test (x ∷ xs) h e = at (test x) (found_any test xs h) e
  where
    at : (b : Bool) → (find test xs ≡ Some h → list_any test xs ≡ true) → cond b (Some x) (find test xs) ≡ Some h → (b || list_any test xs) ≡ true
    at true rest e = refl
    at false rest e = rest e

pub none_any : (test : ℕ → Bool) (xs : List ℕ) → find test xs ≡ None → list_any test xs ≡ false
none_any test [] e = refl
none_any test (x ∷ xs) e = at (test x) (none_any test xs) e
  where
    at : (b : Bool) → (find test xs ≡ None → list_any test xs ≡ false) → cond b (Some x) (find test xs) ≡ None → (b || list_any test xs) ≡ false
    at true rest e = absurd cc
    at false rest e = rest e

filter_first : (test : ℕ → Bool) (f n : ℕ) → f < n
    → filter test (range_with_len f (n - f)) ≡ cond (test f) (f ∷ filter test (range_with_len (f + 1) (n - (f + 1)))) (filter test (range_with_len (f + 1) (n - (f + 1))))
filter_first test f n lt =
    let long : n - f ≡ suc (n - (f + 1)) = omega arith in
    ap (λ (m : ℕ). filter test (range_with_len f m)) long

pub feature_found : (test : ℕ → Bool) (f n : ℕ) (out more : List ℕ) → f < n → test f ≡ true → more ≡ out ++ f ∷ []
    → more ++ filter test (range_with_len (f + 1) (n - (f + 1))) ≡ out ++ filter test (range_with_len f (n - f))
feature_found test f n out more lt is made =
    let rest = filter test (range_with_len (f + 1) (n - (f + 1))) in
    ap (λ (xs : List ℕ). xs ++ rest) made ∙ append_assoc out (f ∷ []) rest
    ∙ ap (λ (xs : List ℕ). out ++ xs) (sym (filter_first test f n lt ∙ ap (λ (b : Bool). cond b (f ∷ rest) rest) is))

pub feature_passed : (test : ℕ → Bool) (f n : ℕ) (out : List ℕ) → f < n → test f ≡ false
    → out ++ filter test (range_with_len (f + 1) (n - (f + 1))) ≡ out ++ filter test (range_with_len f (n - f))
feature_passed test f n out lt is =
    let rest = filter test (range_with_len (f + 1) (n - (f + 1))) in
    ap (λ (xs : List ℕ). out ++ xs) (sym (filter_first test f n lt ∙ ap (λ (b : Bool). cond b (f ∷ rest) rest) is))

module _ (named seen : List ℕ) (f n : ℕ) (r : Option ℕ) (same : seen ≡ named) (found : r ≡ find (λ h. nat_eq h f) seen) (lt : f < n) where
  looked : r ≡ find (λ h. nat_eq h f) named
  looked = found ∙ ap (find (λ h. nat_eq h f)) same

  pub found_more : (one : ℕ) (out more : List ℕ) → r ≡ Some one → more ≡ out ++ one ∷ []
      → more ++ filter (λ g. list_any (λ h. nat_eq h g) named) (range_with_len (f + 1) (n - (f + 1)))
      ≡ out ++ filter (λ g. list_any (λ h. nat_eq h g) named) (range_with_len f (n - f))
  found_more one out more is made =
      let there : find (λ h. nat_eq h f) named ≡ Some one = sym looked ∙ is in
      let this : one ≡ f = (Decides-eqb one f).0 (found_is named f one there) in
      feature_found (λ g. list_any (λ h. nat_eq h g) named) f n out more lt (found_any (λ h. nat_eq h f) named one there) (made ∙ ap (λ (g : ℕ). out ++ g ∷ []) this)

  pub passed_more : (out : List ℕ) → r ≡ None
      → out ++ filter (λ g. list_any (λ h. nat_eq h g) named) (range_with_len (f + 1) (n - (f + 1)))
      ≡ out ++ filter (λ g. list_any (λ h. nat_eq h g) named) (range_with_len f (n - f))
  passed_more out is = feature_passed (λ g. list_any (λ h. nat_eq h g) named) f n out lt (none_any (λ h. nat_eq h f) named (sym looked ∙ is))

-- ---- tables

pub rows_within : (first : ℕ) (rest features : List ℕ) (n m : ℕ) → features ≡ first ∷ rest → m ≡ n → All (λ f. f < n) features → All (λ f. f < m) rest
rows_within first rest features n m e long h k d lt =
    let each : All (λ f. f < n) (first ∷ rest) = subst (λ (xs : List ℕ). All (λ f. f < n) xs) e h in
    let below : get_or rest k d < n = each (suc k) d (omega arith) in
    omega (arith, below, long)

-- ---- prime implicants

pub cubes_append : (vs ws : List (Vec Literal)) → cubes_in (vs ++ ws) ≡ cubes_in vs ++ cubes_in ws
cubes_append [] ws = refl
cubes_append (v ∷ vs) ws = ap (λ (cs : List Cube). v.items ∷ cs) (cubes_append vs ws)

pub merged_made : (x : ℕ) (xs features : List ℕ) (table with out both : List Bool) (s sA sB i o none one two whole : List (Vec Literal))
    → features ≡ x ∷ xs → with ≡ take (length table / 2) table → out ≡ drop (length table / 2) table → both ≡ both_true with out
    → cubes_in s ≡ table_implicants xs both → cubes_in i ≡ table_implicants xs with → cubes_in o ≡ table_implicants xs out
    → none ≡ [] → sA ≡ s → sB ≡ s
    → cubes_in one ≡ cubes_in none ++ with_literal (literal x true) (unshared (cubes_in i) (cubes_in sA))
    → cubes_in two ≡ cubes_in one ++ with_literal (literal x false) (unshared (cubes_in o) (cubes_in sB))
    → whole ≡ two ++ s
    → cubes_in whole ≡ table_implicants features table
merged_made x xs features table with out both s sA sB i o none one two whole split with-is out-is both-is s-is i-is o-is none-is sA-is sB-is one-is two-is whole-is =
    let front = with_literal (literal x true) (unshared (cubes_in i) (cubes_in s)) in
    let back = with_literal (literal x false) (unshared (cubes_in o) (cubes_in s)) in
    let first : cubes_in one ≡ front =
    one-is ∙ ap₂ (λ (n a : List (Vec Literal)). cubes_in n ++ with_literal (literal x true) (unshared (cubes_in i) (cubes_in a))) none-is sA-is in
    let second : cubes_in two ≡ front ++ back =
    two-is ∙ ap₂ (λ (n : List Cube) (a : List (Vec Literal)). n ++ with_literal (literal x false) (unshared (cubes_in o) (cubes_in a))) first sB-is in
    ap cubes_in whole-is ∙ cubes_append two s ∙ ap (λ (cs : List Cube). cs ++ cubes_in s) second ∙ append_assoc front back (cubes_in s)
    ∙ ap₂ (λ (ins outs : List Cube). merged x ins outs (cubes_in s)) (i-is ∙ ap (table_implicants xs) with-is) (o-is ∙ ap (table_implicants xs) out-is)
    ∙ ap (merged x (table_implicants xs (take (length table / 2) table)) (table_implicants xs (drop (length table / 2) table)))
    (s-is ∙ ap (table_implicants xs) (both-is ∙ ap₂ both_true with-is out-is))
    ∙ ap (λ (fs : List ℕ). table_implicants fs table) (sym split)

pub same_made : {E : Type 0} (x : ℕ) (xs features : List ℕ) (table with out : List Bool) (r : Result (Vec (Vec Literal)) E) → features ≡ x ∷ xs
    → with ≡ take (length table / 2) table → out ≡ drop (length table / 2) table → with ≡ out
    → IfOk r (λ v. cubes_in v.items ≡ table_implicants xs with) → IfOk r (λ v. cubes_in v.items ≡ table_implicants features table)
same_made x xs features table with out (Ok v) split with-is out-is same made =
    made ∙ ap (table_implicants xs) with-is ∙ sym (same_halves x xs table (sym with-is ∙ same ∙ out-is)) ∙ ap (λ (fs : List ℕ). table_implicants fs table) (sym split)
same_made x xs features table with out (Err e) split with-is out-is same made = tt

-- ---- the cubes that are not shared

pub among_code : (vs : List (Vec Literal)) (c : Cube) (r b : Bool) → r ≡ list_any (λ (v : Vec Literal). pointwise is_same_literal v.items c) vs → r ≡ b
    → has_cube (cubes_in vs) c ≡ b
among_code vs c r b is e = same vs ∙ sym is ∙ e
  where
    same : (ws : List (Vec Literal)) → has_cube (cubes_in ws) c ≡ list_any (λ (v : Vec Literal). pointwise is_same_literal v.items c) ws
    same [] = refl
    same (w ∷ ws) = ap (λ (rest : Bool). pointwise is_same_literal w.items c || rest) (same ws)

append_nil : (cs : List Cube) → cs ++ [] ≡ cs
append_nil [] = refl
append_nil (c ∷ cs) = ap (λ (ds : List Cube). c ∷ ds) (append_nil cs)

pub other_left : (l : Literal) (shared : List Cube) (out : List Cube) (c : Cube) → has_cube shared c ≡ true → out ≡ out ++ with_literal l (unshared (c ∷ []) shared)
other_left l shared out c e = sym (append_nil out) ∙ ap (λ (b : Bool). out ++ with_literal l (cond (not b) (c ∷ []) [])) (sym e)

pub other_added : (l : Literal) (shared : List Cube) (out more : List (Vec Literal)) (v : Vec Literal) (c : Cube) → has_cube shared c ≡ false → v.items ≡ l ∷ c
    → more ≡ out ++ v ∷ [] → cubes_in more ≡ cubes_in out ++ with_literal l (unshared (c ∷ []) shared)
other_added l shared out more v c e made added =
    ap cubes_in added ∙ cubes_append out (v ∷ []) ∙ ap (λ (d : Cube). cubes_in out ++ d ∷ []) made
    ∙ ap (λ (b : Bool). cubes_in out ++ with_literal l (cond (not b) (c ∷ []) [])) (sym e)

one_more : (l : Literal) (c : Cube) (rest : List Cube) (b : Bool)
    → with_literal l (cond (not b) (c ∷ []) []) ++ with_literal l rest ≡ with_literal l (cond (not b) (c ∷ rest) rest)
one_more l c rest true = refl
one_more l c rest false = refl

pub others_step : (l : Literal) (shared out more : List Cube) (c : Cube) (rest : List Cube) → more ≡ out ++ with_literal l (unshared (c ∷ []) shared)
    → more ++ with_literal l (unshared rest shared) ≡ out ++ with_literal l (unshared (c ∷ rest) shared)
others_step l shared out more c rest e =
    ap (λ (cs : List Cube). cs ++ with_literal l (unshared rest shared)) e
    ∙ append_assoc out (with_literal l (unshared (c ∷ []) shared)) (with_literal l (unshared rest shared))
    ∙ ap (λ (cs : List Cube). out ++ cs) (one_more l c (unshared rest shared) (has_cube shared c))

-- ---- the whole

pub primes_made : (n : ℕ) (g : Formula) (xs one two : List ℕ) (set other none table again : List Bool) (cubes : List (Vec Literal))
    → xs ≡ named_below n g → one ≡ xs → two ≡ xs → set ≡ replicate n false → other ≡ set → none ≡ [] → table ≡ none ++ table_from g one other → again ≡ table
    → cubes_in cubes ≡ table_implicants two again → cubes_in cubes ≡ prime_implicants n g
primes_made n g xs one two set other none table again cubes named-is one-is two-is set-is other-is none-is table-is again-is cubes-is =
    cubes-is
    ∙ ap₂ table_implicants (two-is ∙ named-is) (again-is ∙ table-is ∙ ap₂ ◌++◌ none-is (ap₂ (table_from g) (one-is ∙ named-is) (other-is ∙ set-is)))
    ∙ guard_implicants g (named_below n g) (replicate n false)

pub too_many : (n : ℕ) (g : Formula) (cubes : List (Vec Literal)) → cubes_in cubes ≡ prime_implicants n g → 64 < length cubes → IsShort n g → ⊥
too_many n g cubes e lt short =
    let long : length (cubes_in cubes) ≡ length cubes = length-map cubes (λ (v : Vec Literal). v.items) in
    omega (arith, long, ap length e, lt, short.few_implicants)

pub few_enough : (n : ℕ) (g : Formula) (xs : List ℕ) (cubes : List (Vec Literal)) → xs ≡ named_below n g → length xs ≤ 6
    → cubes_in cubes ≡ prime_implicants n g → length cubes ≤ 64 → IsShort n g
few_enough n g xs cubes named-is few e le =
    let long : length (cubes_in cubes) ≡ length cubes = length-map cubes (λ (v : Vec Literal). v.items) in
    record { few_features = omega (arith, ap length named-is, few); few_implicants = omega (arith, long, ap length e, le) }

each_index : (P : ℕ → Type 0) (xs : List ℕ) → EachNumber P xs → All P xs
each_index P [] h k d lt = absurd (omega arith)
each_index P (x ∷ xs) h zero d lt = h.0
each_index P (x ∷ xs) h (suc k) d lt = each_index P xs h.1 k d (omega arith)

pub named_within : (n : ℕ) (g : Formula) (xs one : List ℕ) (set other : List Bool) → xs ≡ named_below n g → one ≡ xs → set ≡ replicate n false → other ≡ set
    → All (λ f. f < length other) one
named_within n g xs one set other named-is one-is set-is other-is =
    let long : length other ≡ n = ap length (other-is ∙ set-is) ∙ length-replicate n false in
    let below : All (λ f. f < n) one = subst (λ (ys : List ℕ). All (λ f. f < n) ys) (sym (one-is ∙ named-is)) (each_index (λ f. f < n) (named_below n g) (features_below n g)) in
    subst (λ (m : ℕ). All (λ f. f < m) one) (sym long) below

pub short_given : (n : ℕ) (g : Formula) (r : Option Guard) (x : Guard) → r ≡ Some x
    → MatchOption r (IsShort n g → ⊥) (λ form. IsShort n g × (formula_of form ≡ blake n g)) → IsShort n g × (formula_of x ≡ blake n g)
short_given n g r x e h = subst (λ (o : Option Guard). MatchOption o (IsShort n g → ⊥) (λ form. IsShort n g × (formula_of form ≡ blake n g))) e h
