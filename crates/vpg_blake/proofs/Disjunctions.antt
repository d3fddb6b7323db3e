-- The `or` of cubes: its truth, its three-valued value, its names, and that it can be read again.
use Rattle.std.proofs.Common.{◌≡◌, ℕ, ◌<◌, ◌≤◌, Bool, true, false, List, [], ◌∷◌, refl, sym, ◌∙◌, arith, inl, inr, ◌⊎◌}
use Rattle.std.specs.Prelude.{◌&&◌, ◌||◌, not, if◌then◌else◌, slice_index_or}
use Rattle.vpg_guards.specs.declared.tri.Tri.{Tri}
use Rattle.vpg_guards.specs.declared.tri.Tri.TheVariants.{No, Unknown, Yes}
use Rattle.vpg_guards.specs.Formula.{Formula, Parts, always, never, feature, negation, all, any, no_parts, part, truth, all_true, any_true, named, named_by, IsBelow, AreBelow, IsGuard, ArePartsOfAll, ArePartsOfAny, is_all, is_any}
use Rattle.vpg_guards.specs.Known.{kleene, kleene_all, kleene_any, tri_and, tri_or}
use Rattle.vpg_guards.specs.Writing.{nesting, all_nesting, any_nesting, IsReadable}
use Rattle.vpg_blake.specs.Blake.{Cube, literal_formula, literal_parts, cube_formula, cube_parts, disjunction, and_of, or_of, tri_of}
use Rattle.vpg_blake.proofs.Cubes.{Each, Some, EachLiteral, SomeLiteral, and_parts}
use Rattle.vpg_blake.proofs.Primes.{EachNumber, Holds, IsKnown, IsRefuted}
use Rattle.vpg_blake.proofs.Named.{number_append, number_left, number_right}

-- ---- lists of one part are as the lists

or_false : (b : Bool) → (b || false) ≡ b
or_false true = refl
or_false false = refl

and_true : (b : Bool) → (b && true) ≡ b
and_true true = refl
and_true false = refl

or_no : (t : Tri) → tri_or t No ≡ t
or_no No = refl
or_no Unknown = refl
or_no Yes = refl

and_yes : (t : Tri) → tri_and t Yes ≡ t
and_yes No = refl
and_yes Unknown = refl
and_yes Yes = refl

truth_all_of : (set : List Bool) (gs : Parts) → truth set (and_of gs) ≡ all_true set gs
truth_all_of set no_parts = refl
truth_all_of set (part g no_parts) = sym (and_true (truth set g))
truth_all_of set (part g (part h gs)) = refl

truth_any_of : (set : List Bool) (gs : Parts) → truth set (or_of gs) ≡ any_true set gs
truth_any_of set no_parts = refl
truth_any_of set (part g no_parts) = sym (or_false (truth set g))
truth_any_of set (part g (part h gs)) = refl

kleene_all_of : (known : List Tri) (gs : Parts) → kleene known (and_of gs) ≡ kleene_all known gs
kleene_all_of known no_parts = refl
kleene_all_of known (part g no_parts) = sym (and_yes (kleene known g))
kleene_all_of known (part g (part h gs)) = refl

kleene_any_of : (known : List Tri) (gs : Parts) → kleene known (or_of gs) ≡ kleene_any known gs
kleene_any_of known no_parts = refl
kleene_any_of known (part g no_parts) = sym (or_no (kleene known g))
kleene_any_of known (part g (part h gs)) = refl

-- ---- truth

module _ (set : List Bool) where
  literal_truth : (f : ℕ) (v : Bool) → slice_index_or set f false ≡ v → truth set (if v then feature f else negation (feature f)) ≡ true
  literal_truth f true e = e
  literal_truth f false e = rw e refl

  truth_literal : (f : ℕ) (v : Bool) → truth set (if v then feature f else negation (feature f)) ≡ true → slice_index_or set f false ≡ v
  truth_literal f true e = e
  truth_literal f false e = at (slice_index_or set f false) refl e
    where
      at : (b : Bool) → slice_index_or set f false ≡ b → not b ≡ true → slice_index_or set f false ≡ false
      at true is k = absurd cc
      at false is k = is

  and_both : (a b : Bool) → a ≡ true → b ≡ true → (a && b) ≡ true
  and_both true b d e = e
  and_both false b d e = absurd cc

  literals_hold : (c : Cube) → EachLiteral (Holds set) c → all_true set (literal_parts c) ≡ true
  literals_hold [] h = refl
  literals_hold (l ∷ c) h =
      and_both (truth set (literal_formula l)) (all_true set (literal_parts c)) (literal_truth l.feature l.value h.0) (literals_hold c h.1)

  holding_literals : (c : Cube) → all_true set (literal_parts c) ≡ true → EachLiteral (Holds set) c
  holding_literals [] e = tt
  holding_literals (l ∷ c) e =
      let both = and_parts (truth set (literal_formula l)) (all_true set (literal_parts c)) e in
      (truth_literal l.feature l.value both.0, holding_literals c both.1)

  or_right : (a b : Bool) → b ≡ true → (a || b) ≡ true
  or_right true b e = refl
  or_right false b e = e

  or_parts : (a b : Bool) → (a || b) ≡ true → (a ≡ true) ⊎ (b ≡ true)
  or_parts true b e = inl refl
  or_parts false b e = inr e

  some_holds : (cs : List Cube) → Some (EachLiteral (Holds set)) cs → any_true set (cube_parts cs) ≡ true
  some_holds [] h = absurd h
  some_holds (c ∷ cs) (inl h) = rw (truth_all_of set (literal_parts c) ∙ literals_hold c h) refl
  some_holds (c ∷ cs) (inr h) = or_right (truth set (cube_formula c)) (any_true set (cube_parts cs)) (some_holds cs h)

  holding_some : (cs : List Cube) → any_true set (cube_parts cs) ≡ true → Some (EachLiteral (Holds set)) cs
  holding_some [] e = absurd cc
  holding_some (c ∷ cs) e = at (or_parts (truth set (cube_formula c)) (any_true set (cube_parts cs)) e) (holding_some cs)
    where
      at : (truth set (cube_formula c) ≡ true) ⊎ (any_true set (cube_parts cs) ≡ true) → (any_true set (cube_parts cs) ≡ true → Some (EachLiteral (Holds set)) cs)
          → Some (EachLiteral (Holds set)) (c ∷ cs)
      at (inl k) rest = inl (holding_literals c (sym (truth_all_of set (literal_parts c)) ∙ k))
      at (inr k) rest = inr (rest k)

  -- the `or` is true where some cube holds
  pub true_where_some : (cs : List Cube) → Some (EachLiteral (Holds set)) cs → truth set (disjunction cs) ≡ true
  true_where_some cs h = truth_any_of set (cube_parts cs) ∙ some_holds cs h

  pub some_where_true : (cs : List Cube) → truth set (disjunction cs) ≡ true → Some (EachLiteral (Holds set)) cs
  some_where_true cs e = holding_some cs (sym (truth_any_of set (cube_parts cs)) ∙ e)

-- ---- three-valued

module _ (known : List Tri) where
  literal_known : (f : ℕ) (v : Bool) → slice_index_or known f Unknown ≡ tri_of v → kleene known (if v then feature f else negation (feature f)) ≡ Yes
  literal_known f true e = e
  literal_known f false e = rw e refl

  literal_refuted : (f : ℕ) (v : Bool) → slice_index_or known f Unknown ≡ tri_of (not v) → kleene known (if v then feature f else negation (feature f)) ≡ No
  literal_refuted f true e = e
  literal_refuted f false e = rw e refl

  literals_known : (c : Cube) → EachLiteral (IsKnown known) c → kleene_all known (literal_parts c) ≡ Yes
  literals_known [] h = refl
  literals_known (l ∷ c) h = rw (literal_known l.feature l.value h.0) (literals_known c h.1)

  and_no : (t : Tri) → tri_and t No ≡ No
  and_no No = refl
  and_no Unknown = refl
  and_no Yes = refl

  literals_refuted : (c : Cube) → SomeLiteral (IsRefuted known) c → kleene_all known (literal_parts c) ≡ No
  literals_refuted [] h = absurd h
  literals_refuted (l ∷ c) (inl e) = rw (literal_refuted l.feature l.value e) refl
  literals_refuted (l ∷ c) (inr h) = rw (literals_refuted c h) (and_no (kleene known (literal_formula l)))

  or_yes : (t : Tri) → tri_or t Yes ≡ Yes
  or_yes No = refl
  or_yes Unknown = refl
  or_yes Yes = refl

  some_known : (cs : List Cube) → Some (EachLiteral (IsKnown known)) cs → kleene_any known (cube_parts cs) ≡ Yes
  some_known [] h = absurd h
  some_known (c ∷ cs) (inl h) = rw (kleene_all_of known (literal_parts c) ∙ literals_known c h) refl
  some_known (c ∷ cs) (inr h) = rw (some_known cs h) (or_yes (kleene known (cube_formula c)))

  each_refuted : (cs : List Cube) → Each (SomeLiteral (IsRefuted known)) cs → kleene_any known (cube_parts cs) ≡ No
  each_refuted [] h = refl
  each_refuted (c ∷ cs) h = rw (kleene_all_of known (literal_parts c) ∙ literals_refuted c h.0) (each_refuted cs h.1)

  pub yes_where_some : (cs : List Cube) → Some (EachLiteral (IsKnown known)) cs → kleene known (disjunction cs) ≡ Yes
  yes_where_some cs h = kleene_any_of known (cube_parts cs) ∙ some_known cs h

  pub no_where_each : (cs : List Cube) → Each (SomeLiteral (IsRefuted known)) cs → kleene known (disjunction cs) ≡ No
  no_where_each cs h = kleene_any_of known (cube_parts cs) ∙ each_refuted cs h

-- ---- names

module _ (P : ℕ → Type 0) where
  literal_names : (f : ℕ) (v : Bool) → P f → EachNumber P (named (if v then feature f else negation (feature f)))
  literal_names f true h = (h, tt)
  literal_names f false h = (h, tt)

  all_of_names : (gs : Parts) → EachNumber P (named_by gs) → EachNumber P (named (and_of gs))
  all_of_names no_parts h = tt
  all_of_names (part g no_parts) h = number_left P (named g) [] h
  all_of_names (part g (part k gs)) h = h

  any_of_names : (gs : Parts) → EachNumber P (named_by gs) → EachNumber P (named (or_of gs))
  any_of_names no_parts h = tt
  any_of_names (part g no_parts) h = number_left P (named g) [] h
  any_of_names (part g (part k gs)) h = h

  literals_names : (c : Cube) → EachLiteral (λ l. P l.feature) c → EachNumber P (named_by (literal_parts c))
  literals_names [] h = tt
  literals_names (l ∷ c) h = number_append P (named (literal_formula l)) (named_by (literal_parts c)) (literal_names l.feature l.value h.0) (literals_names c h.1)

  cubes_names : (cs : List Cube) → Each (EachLiteral (λ l. P l.feature)) cs → EachNumber P (named_by (cube_parts cs))
  cubes_names [] h = tt
  cubes_names (c ∷ cs) h =
      number_append P (named (cube_formula c)) (named_by (cube_parts cs)) (all_of_names (literal_parts c) (literals_names c h.0)) (cubes_names cs h.1)

  pub names_of_form : (cs : List Cube) → Each (EachLiteral (λ l. P l.feature)) cs → EachNumber P (named (disjunction cs))
  names_of_form cs h = any_of_names (cube_parts cs) (cubes_names cs h)

mutual
  pub below_names : (n : ℕ) (g : Formula) → EachNumber (λ y. y < n) (named g) → IsBelow n g
  below_names n always h = tt
  below_names n never h = tt
  below_names n (feature f) h = h.0
  below_names n (negation g) h = below_names n g h
  below_names n (all gs) h = below_all_names n gs h
  below_names n (any gs) h = below_all_names n gs h

  below_all_names : (n : ℕ) (gs : Parts) → EachNumber (λ y. y < n) (named_by gs) → AreBelow n gs
  below_all_names n no_parts h = tt
  below_all_names n (part g gs) h =
      (below_names n g (number_left (λ y. y < n) (named g) (named_by gs) h), below_all_names n gs (number_right (λ y. y < n) (named g) (named_by gs) h))

-- ---- its form

record IsLiteral (g : Formula) : Type 0 where
  guard : IsGuard g
  no_all : is_all g ≡ false
  no_any : is_any g ≡ false
  nested : nesting g ≤ 1

literal_form : (f : ℕ) (v : Bool) → IsLiteral (if v then feature f else negation (feature f))
literal_form f true = record { guard = tt; no_all = refl; no_any = refl; nested = omega arith }
literal_form f false = record { guard = tt; no_all = refl; no_any = refl; nested = omega arith }

literals_form : (c : Cube) → ArePartsOfAll (literal_parts c) × (all_nesting (literal_parts c) ≤ 1)
literals_form [] = (tt, omega arith)
literals_form (l ∷ c) =
    let one = literal_form l.feature l.value in
    let rest = literals_form c in
    ((one.guard, one.no_all, rest.0), rw one.no_any (omega (arith, one.nested, rest.1)))

record IsCubeForm (g : Formula) : Type 0 where
  guard : IsGuard g
  no_any : is_any g ≡ false
  nested : nesting g ≤ 1

cube_form : (c : Cube) → IsCubeForm (cube_formula c)
cube_form [] = record { guard = tt; no_any = refl; nested = omega arith }
cube_form (l ∷ []) =
    let one = literal_form l.feature l.value in
    record { guard = one.guard; no_any = one.no_any; nested = one.nested }
cube_form (l ∷ m ∷ c) =
    let parts = literals_form (l ∷ m ∷ c) in
    record { guard = (tt, parts.0); no_any = refl; nested = parts.1 }

cubes_form : (cs : List Cube) → ArePartsOfAny (cube_parts cs) × (any_nesting (cube_parts cs) ≤ 1)
cubes_form [] = (tt, omega arith)
cubes_form (c ∷ cs) =
    let one = cube_form c in
    let rest = cubes_form cs in
    ((one.guard, one.no_any, rest.0), omega (arith, one.nested, rest.1))

-- the `or` of cubes can be written and read again
pub form_readable : (n : ℕ) (cs : List Cube) → Each (EachLiteral (λ l. l.feature < n)) cs → IsReadable n (disjunction cs)
form_readable n [] h = record { guard = tt; below = tt; nested = omega arith }
form_readable n (c ∷ []) h =
    let one = cube_form c in
    record { guard = one.guard; below = below_names n (cube_formula c) (names_of_form (λ y. y < n) (c ∷ []) h); nested = omega (arith, one.nested) }
form_readable n (c ∷ d ∷ cs) h =
    let parts = cubes_form (c ∷ d ∷ cs) in
    record { guard = (tt, parts.0); below = below_names n (disjunction (c ∷ d ∷ cs)) (names_of_form (λ y. y < n) (c ∷ d ∷ cs) h); nested = omega (arith, parts.1) }
