-- What the prime implicants of a function of truth values say of it.
use Rattle.std.proofs.Common.{◌≡◌, ◌≢◌, ℕ, zero, suc, Bool, true, false, List, [], ◌∷◌, refl, sym, ap, ap₂, subst, ◌∙◌, inl, inr}
use Rattle.std.proofs.lemmas.Bool.Decides.{Decides-eqb}
use Rattle.std.specs.Prelude.{◌&&◌, not, map, nat_eq, if◌then◌else◌, slice_index_or}
use Rattle.vpg_guards.specs.declared.tri.Tri.{Tri}
use Rattle.vpg_guards.specs.declared.tri.Tri.TheVariants.{No, Unknown, Yes}
use Rattle.vpg_guards.specs.Known.{Agrees, IsCompletion}
use Rattle.vpg_blake.specs.Blake.{Cube, implicants, merged, tri_of}
use Rattle.vpg_blake.specs.declared.literal.Literal.{Literal}
use Rattle.vpg_blake.proofs.Cubes.{literal, Each, Some, EachLiteral, SomeLiteral, each_always, each_weaker, and_parts, and_both, merged_each, merged_in, merged_out, merged_shared}

-- ---- lists of features

-- of each number of a list
abbrev pub EachNumber : (ℕ → Type 0) → List ℕ → Type 0
EachNumber P [] = Unit {0}
EachNumber P (x ∷ xs) = P x × EachNumber P xs

abbrev pub Lacks : ℕ → List ℕ → Type 0
Lacks x xs = EachNumber (λ y. y ≢ x) xs

-- each number stands there once
abbrev pub Apart : List ℕ → Type 0
Apart [] = Unit {0}
Apart (x ∷ xs) = Lacks x xs × Apart xs

-- the values of features in a set
abbrev pub row_of : List ℕ → List Bool → List Bool
row_of [] set = []
row_of (x ∷ xs) set = slice_index_or set x false ∷ row_of xs set

abbrev pub Holds : List Bool → Literal → Type 0
Holds set l = slice_index_or set l.feature false ≡ l.value

abbrev pub IsKnown : List Tri → Literal → Type 0
IsKnown known l = slice_index_or known l.feature Unknown ≡ tri_of l.value

abbrev pub IsRefuted : List Tri → Literal → Type 0
IsRefuted known l = slice_index_or known l.feature Unknown ≡ tri_of (not l.value)

-- a function where the first of its values is true, where it is false, and where it is true either way
abbrev pub with_in : (List Bool → Bool) → List Bool → Bool
with_in f = λ row. f (true ∷ row)

abbrev pub with_out : (List Bool → Bool) → List Bool → Bool
with_out f = λ row. f (false ∷ row)

abbrev pub with_either : (List Bool → Bool) → List Bool → Bool
with_either f = λ row. f (true ∷ row) && f (false ∷ row)

-- ---- no feature is left

pub leaf_each : (P : Cube → Type 0) (b : Bool) → (b ≡ true → P []) → Each P (if b then [] ∷ [] else [])
leaf_each P true h = (h refl, tt)
leaf_each P false h = tt

pub leaf_some : (P : Cube → Type 0) (b : Bool) → b ≡ true → P [] → Some P (if b then [] ∷ [] else [])
leaf_some P true e h = inl h
leaf_some P false e h = absurd cc

pub either_way : (f : List Bool → Bool) (row : List Bool) (b : Bool) → (f (true ∷ row) && f (false ∷ row)) ≡ true → f (b ∷ row) ≡ true
either_way f row true e = (and_parts (f (true ∷ row)) (f (false ∷ row)) e).0
either_way f row false e = (and_parts (f (true ∷ row)) (f (false ∷ row)) e).1

-- ---- truth

-- where an implicant holds, the function is true
pub sound : (set : List Bool) (xs : List ℕ) (f : List Bool → Bool) → Each (λ c. EachLiteral (Holds set) c → f (row_of xs set) ≡ true) (implicants xs f)
sound set [] f = leaf_each (λ c. EachLiteral (Holds set) c → f [] ≡ true) (f []) (λ e h. e)
sound set (x ∷ xs) f =
    let goal : Cube → Type 0 = λ c. EachLiteral (Holds set) c → f (slice_index_or set x false ∷ row_of xs set) ≡ true in
    let at : (v : Bool) (c : Cube) → (EachLiteral (Holds set) c → f (v ∷ row_of xs set) ≡ true) → goal (literal x v ∷ c) =
    λ v c h hs. subst (λ (b : Bool). f (b ∷ row_of xs set) ≡ true) (sym hs.0) (h hs.1) in
    merged_each goal x (implicants xs (with_in f)) (implicants xs (with_out f)) (implicants xs (with_either f))
    (each_weaker (λ c. EachLiteral (Holds set) c → f (true ∷ row_of xs set) ≡ true) (λ c. goal (literal x true ∷ c)) (at true) (implicants xs (with_in f)) (sound set xs (with_in f)))
    (each_weaker (λ c. EachLiteral (Holds set) c → f (false ∷ row_of xs set) ≡ true) (λ c. goal (literal x false ∷ c)) (at false) (implicants xs (with_out f)) (sound set xs (with_out f)))
    (each_weaker (λ c. EachLiteral (Holds set) c → (f (true ∷ row_of xs set) && f (false ∷ row_of xs set)) ≡ true) goal
    (λ c h hs. either_way f (row_of xs set) (slice_index_or set x false) (h hs)) (implicants xs (with_either f)) (sound set xs (with_either f)))

by_value : (set : List Bool) (x : ℕ) (ins outs shared : List Cube) (b : Bool) → slice_index_or set x false ≡ b
    → (b ≡ true → Some (EachLiteral (Holds set)) ins) → (b ≡ false → Some (EachLiteral (Holds set)) outs)
    → Some (EachLiteral (Holds set)) (merged x ins outs shared)
by_value set x ins outs shared true e h k = merged_in (Holds set) x ins outs shared e (h refl)
by_value set x ins outs shared false e h k = merged_out (Holds set) x ins outs shared e (k refl)

-- where the function is true, an implicant holds
pub covered : (set : List Bool) (xs : List ℕ) (f : List Bool → Bool) → f (row_of xs set) ≡ true → Some (EachLiteral (Holds set)) (implicants xs f)
covered set [] f h = leaf_some (EachLiteral (Holds set)) (f []) h tt
covered set (x ∷ xs) f h =
    by_value set x (implicants xs (with_in f)) (implicants xs (with_out f)) (implicants xs (with_either f)) (slice_index_or set x false) refl
    (λ e. covered set xs (with_in f) (subst (λ (b : Bool). f (b ∷ row_of xs set) ≡ true) e h))
    (λ e. covered set xs (with_out f) (subst (λ (b : Bool). f (b ∷ row_of xs set) ≡ true) e h))

-- ---- sets with one feature changed

abbrev pub put : ℕ → Bool → List Bool → List Bool
put zero v [] = v ∷ []
put zero v (b ∷ set) = v ∷ set
put (suc x) v [] = false ∷ put x v []
put (suc x) v (b ∷ set) = b ∷ put x v set

pub put_same : (x : ℕ) (v : Bool) (set : List Bool) → slice_index_or (put x v set) x false ≡ v
put_same zero v [] = refl
put_same zero v (b ∷ set) = refl
put_same (suc x) v [] = put_same x v []
put_same (suc x) v (b ∷ set) = put_same x v set

pub put_other : (x y : ℕ) (v : Bool) (set : List Bool) → y ≢ x → slice_index_or (put x v set) y false ≡ slice_index_or set y false
put_other zero zero v [] ne = absurd (ne refl)
put_other zero zero v (b ∷ set) ne = absurd (ne refl)
put_other zero (suc y) v [] ne = refl
put_other zero (suc y) v (b ∷ set) ne = refl
put_other (suc x) zero v [] ne = refl
put_other (suc x) zero v (b ∷ set) ne = refl
put_other (suc x) (suc y) v [] ne = put_other x y v [] (λ e. ne (ap suc e))
put_other (suc x) (suc y) v (b ∷ set) ne = put_other x y v set (λ e. ne (ap suc e))

pub row_put : (x : ℕ) (v : Bool) (xs : List ℕ) (set : List Bool) → Lacks x xs → row_of xs (put x v set) ≡ row_of xs set
row_put x v [] set h = refl
row_put x v (y ∷ ys) set h = ap₂ (λ (b : Bool) (row : List Bool). b ∷ row) (put_other x y v set h.0) (row_put x v ys set h.1)

module _ (known : List Tri) where
  pub put_completes : (x : ℕ) (v : Bool) (set : List Bool) → Agrees (slice_index_or known x Unknown) v → IsCompletion known set → IsCompletion known (put x v set)
  put_completes x v set a h y = at (nat_eq y x) refl
    where
      at : (b : Bool) → nat_eq y x ≡ b → Agrees (slice_index_or known y Unknown) (slice_index_or (put x v set) y false)
      at true e =
          let same : y ≡ x = (Decides-eqb y x).0 e in
          subst (λ (z : ℕ). Agrees (slice_index_or known z Unknown) (slice_index_or (put x v set) z false)) (sym same)
          (subst (Agrees (slice_index_or known x Unknown)) (sym (put_same x v set)) a)
      at false e =
          let other : y ≢ x = λ same. let is = (Decides-eqb y x).1 same in absurd cc in
          subst (Agrees (slice_index_or known y Unknown)) (sym (put_other x y v set other)) (h y)

  -- a feature that may have a value is given it
  given : (x : ℕ) (xs : List ℕ) (f : List Bool → Bool) (b v : Bool) → Lacks x xs → Agrees (slice_index_or known x Unknown) v
      → ((set : List Bool) → IsCompletion known set → f (row_of (x ∷ xs) set) ≡ b)
      → (set : List Bool) → IsCompletion known set → f (v ∷ row_of xs set) ≡ b
  given x xs f b v lacks a h set done =
      ap₂ (λ (u : Bool) (row : List Bool). f (u ∷ row)) (sym (put_same x v set)) (sym (row_put x v xs set lacks))
      ∙ h (put x v set) (put_completes x v set a done)

-- a set that agrees with what is known
abbrev pub is_yes : Tri → Bool
is_yes No = false
is_yes Unknown = false
is_yes Yes = true

least_agrees : (t : Tri) → Agrees t (is_yes t)
least_agrees No = refl
least_agrees Unknown = tt
least_agrees Yes = refl

pub least_completes : (known : List Tri) → IsCompletion known (map is_yes known)
least_completes [] zero = tt
least_completes [] (suc y) = tt
least_completes (t ∷ known) zero = least_agrees t
least_completes (t ∷ known) (suc y) = least_completes known y

-- ---- three-valued

module _ (known : List Tri) where
  by_known : (x : ℕ) (ins outs shared : List Cube) (t : Tri) → slice_index_or known x Unknown ≡ t
      → (Agrees t true → Some (EachLiteral (IsKnown known)) ins) → (Agrees t false → Some (EachLiteral (IsKnown known)) outs)
      → (Agrees t true → Agrees t false → Some (EachLiteral (IsKnown known)) shared)
      → Some (EachLiteral (IsKnown known)) (merged x ins outs shared)
  by_known x ins outs shared No e h k m = merged_out (IsKnown known) x ins outs shared e (k refl)
  by_known x ins outs shared Unknown e h k m = merged_shared (IsKnown known) x ins outs shared (m tt tt)
  by_known x ins outs shared Yes e h k m = merged_in (IsKnown known) x ins outs shared e (h refl)

  -- where all sets that agree make the function true, an implicant is known to hold
  pub known_true : (xs : List ℕ) (f : List Bool → Bool) → Apart xs → ((set : List Bool) → IsCompletion known set → f (row_of xs set) ≡ true)
      → Some (EachLiteral (IsKnown known)) (implicants xs f)
  known_true [] f apart h = leaf_some (EachLiteral (IsKnown known)) (f []) (h (map is_yes known) (least_completes known)) tt
  known_true (x ∷ xs) f apart h =
      by_known x (implicants xs (with_in f)) (implicants xs (with_out f)) (implicants xs (with_either f)) (slice_index_or known x Unknown) refl
      (λ a. known_true xs (with_in f) apart.1 (given known x xs f true true apart.0 a h))
      (λ a. known_true xs (with_out f) apart.1 (given known x xs f true false apart.0 a h))
      (λ a b. known_true xs (with_either f) apart.1
      (λ set done. and_both (f (true ∷ row_of xs set)) (f (false ∷ row_of xs set)) (given known x xs f true true apart.0 a h set done)
      (given known x xs f true false apart.0 b h set done)))

  side : (x : ℕ) (v : Bool) (cs : List Cube) (t : Tri) → slice_index_or known x Unknown ≡ t
      → (Agrees t v → Each (SomeLiteral (IsRefuted known)) cs)
      → Each (λ c. SomeLiteral (IsRefuted known) (literal x v ∷ c)) cs
  side x true cs No e h = each_always (λ c. SomeLiteral (IsRefuted known) (literal x true ∷ c)) (λ c. inl e) cs
  side x true cs Unknown e h = each_weaker (SomeLiteral (IsRefuted known)) (λ c. SomeLiteral (IsRefuted known) (literal x true ∷ c)) (λ c k. inr k) cs (h tt)
  side x true cs Yes e h = each_weaker (SomeLiteral (IsRefuted known)) (λ c. SomeLiteral (IsRefuted known) (literal x true ∷ c)) (λ c k. inr k) cs (h refl)
  side x false cs No e h = each_weaker (SomeLiteral (IsRefuted known)) (λ c. SomeLiteral (IsRefuted known) (literal x false ∷ c)) (λ c k. inr k) cs (h refl)
  side x false cs Unknown e h = each_weaker (SomeLiteral (IsRefuted known)) (λ c. SomeLiteral (IsRefuted known) (literal x false ∷ c)) (λ c k. inr k) cs (h tt)
  side x false cs Yes e h = each_always (λ c. SomeLiteral (IsRefuted known) (literal x false ∷ c)) (λ c. inl e) cs

  and_false : (p q : Bool) → q ≡ false → (p && q) ≡ false
  and_false true q e = e
  and_false false q e = refl

  both_false : (f : List Bool → Bool) (row : List Bool) (t : Tri) → ((v : Bool) → Agrees t v → f (v ∷ row) ≡ false) → (f (true ∷ row) && f (false ∷ row)) ≡ false
  both_false f row No h = and_false (f (true ∷ row)) (f (false ∷ row)) (h false refl)
  both_false f row Unknown h = and_false (f (true ∷ row)) (f (false ∷ row)) (h false tt)
  both_false f row Yes h = rw (h true refl) refl

  -- where all sets that agree make it false, each implicant is refuted
  pub known_false : (xs : List ℕ) (f : List Bool → Bool) → Apart xs → ((set : List Bool) → IsCompletion known set → f (row_of xs set) ≡ false)
      → Each (SomeLiteral (IsRefuted known)) (implicants xs f)
  known_false [] f apart h =
      let never : f [] ≡ false = h (map is_yes known) (least_completes known) in
      leaf_each (SomeLiteral (IsRefuted known)) (f []) (λ e. absurd cc)
  known_false (x ∷ xs) f apart h =
      let t : Tri = slice_index_or known x Unknown in
      let at : (v : Bool) → Agrees t v → (set : List Bool) → IsCompletion known set → f (v ∷ row_of xs set) ≡ false =
      λ v a. given known x xs f false v apart.0 a h in
      merged_each (SomeLiteral (IsRefuted known)) x (implicants xs (with_in f)) (implicants xs (with_out f)) (implicants xs (with_either f))
      (side x true (implicants xs (with_in f)) (slice_index_or known x Unknown) refl (λ a. known_false xs (with_in f) apart.1 (at true a)))
      (side x false (implicants xs (with_out f)) (slice_index_or known x Unknown) refl (λ a. known_false xs (with_out f) apart.1 (at false a)))
      (known_false xs (with_either f) apart.1
      (λ set done. both_false f (row_of xs set) (slice_index_or known x Unknown) (λ v a. at v a set done)))

-- ---- what they name

-- each implicant names features of the list alone
pub names_within : (P : ℕ → Type 0) (xs : List ℕ) (f : List Bool → Bool) → EachNumber P xs → Each (EachLiteral (λ l. P l.feature)) (implicants xs f)
names_within P [] f h = leaf_each (EachLiteral (λ l. P l.feature)) (f []) (λ e. tt)
names_within P (x ∷ xs) f h =
    merged_each (EachLiteral (λ l. P l.feature)) x (implicants xs (with_in f)) (implicants xs (with_out f)) (implicants xs (with_either f))
    (each_weaker (EachLiteral (λ l. P l.feature)) (λ c. EachLiteral (λ l. P l.feature) (literal x true ∷ c)) (λ c k. (h.0, k)) (implicants xs (with_in f)) (names_within P xs (with_in f) h.1))
    (each_weaker (EachLiteral (λ l. P l.feature)) (λ c. EachLiteral (λ l. P l.feature) (literal x false ∷ c)) (λ c k. (h.0, k)) (implicants xs (with_out f)) (names_within P xs (with_out f) h.1))
    (names_within P xs (with_either f) h.1)
