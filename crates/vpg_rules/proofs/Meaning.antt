-- A chosen of features meets a rule if it meets each of its clauses.
use Rattle.std.proofs.Common.{◌≡◌, ℕ, Bool, true, false, cond, List, [], ◌∷◌, ◌++◌, map, refl, sym, ap, ap₂, ◌∙◌, inl, inr, ◌⊎◌}
use Rattle.std.specs.Prelude.{not, ◌&&◌, ◌||◌, ◌==◌, filter, ◌↔◌}
use Rattle.std.specs.List.{AllByRecursion}
use Rattle.std.proofs.lemmas.Bool.{eqb-true}
use Rattle.vpg_features.proofs.Held.{both_true}
use Rattle.vpg_rules.specs.declared.clause.Literal.{Literal}
use Rattle.vpg_rules.specs.Constraint.{Constraint, Parts, always, never, feature, negation, all, any, implication, equivalence, no_parts, part, implies, equals, truth, all_true, any_true, IsMet}
use Rattle.vpg_rules.specs.Clauses.{IsTrueIn, MeetsClause, is_same, has, joined, crossed, clauses_when, each_when, some_when, clauses_of}

-- ---- truth as tests

literal_true : (ℕ → Bool) → Literal → Bool
literal_true chosen l = equals (chosen l.feature) l.value

clause_true : (ℕ → Bool) → List Literal → Bool
clause_true chosen [] = false
clause_true chosen (l ∷ ls) = literal_true chosen l || clause_true chosen ls

all_met : (ℕ → Bool) → List (List Literal) → Bool
all_met chosen [] = true
all_met chosen (c ∷ cs) = clause_true chosen c && all_met chosen cs

-- ---- tables

or_three : (a b c : Bool) → ((a || b) || c) ≡ (a || (b || c))
or_three true b c = refl
or_three false b c = refl

and_three : (a b c : Bool) → ((a && b) && c) ≡ (a && (b && c))
and_three true b c = refl
and_three false b c = refl

or_swap : (x l r : Bool) → (x || (l || r)) ≡ (l || (x || r))
or_swap true true r = refl
or_swap true false r = refl
or_swap false l r = refl

or_true : (a : Bool) → (a || true) ≡ true
or_true true = refl
or_true false = refl

or_and : (x d r : Bool) → ((x || d) && (x || r)) ≡ (x || (d && r))
or_and true d r = refl
or_and false d r = refl

and_or : (c e d : Bool) → ((c || d) && (e || d)) ≡ ((c && e) || d)
and_or true true d = refl
and_or true false true = refl
and_or true false false = refl
and_or false true true = refl
and_or false true false = refl
and_or false false true = refl
and_or false false false = refl

not_not : (a : Bool) → not (not a) ≡ a
not_not true = refl
not_not false = refl

not_and : (a b : Bool) → (not a || not b) ≡ not (a && b)
not_and true b = refl
not_and false b = refl

not_or : (a b : Bool) → (not a && not b) ≡ not (a || b)
not_or true b = refl
not_or false b = refl

implies_or : (a b : Bool) → (not a || b) ≡ implies a b
implies_or true true = refl
implies_or true false = refl
implies_or false true = refl
implies_or false false = refl

implies_not : (a b : Bool) → (a && not b) ≡ not (implies a b)
implies_not true true = refl
implies_not true false = refl
implies_not false true = refl
implies_not false false = refl

equals_both : (a b : Bool) → ((not a || b) && (a || not b)) ≡ equals a b
equals_both true true = refl
equals_both true false = refl
equals_both false true = refl
equals_both false false = refl

equals_not : (a b : Bool) → ((a || b) && (not a || not b)) ≡ not (equals a b)
equals_not true true = refl
equals_not true false = refl
equals_not false true = refl
equals_not false false = refl

-- ---- lists of clauses

module _ (chosen : ℕ → Bool) where
  or_append : (c d : List Literal) → clause_true chosen (c ++ d) ≡ (clause_true chosen c || clause_true chosen d)
  unfolding clause_true
  or_append [] d = refl
  or_append (l ∷ c) d = ap (λ (t : Bool). literal_true chosen l || t) (or_append c d) ∙ sym (or_three (literal_true chosen l) (clause_true chosen c) (clause_true chosen d))

  met_append : (cs ds : List (List Literal)) → all_met chosen (cs ++ ds) ≡ (all_met chosen cs && all_met chosen ds)
  unfolding all_met
  met_append [] ds = refl
  met_append (c ∷ cs) ds = ap (λ (t : Bool). clause_true chosen c && t) (met_append cs ds) ∙ sym (and_three (clause_true chosen c) (all_met chosen cs) (all_met chosen ds))

  same_value : (a b : Bool) → cond a b (not b) ≡ true → a ≡ b
  same_value true true e = refl
  same_value true false e = absurd cc
  same_value false true e = absurd cc
  same_value false false e = refl

  same_literal : (k l : Literal) → is_same k l ≡ true → literal_true chosen k ≡ literal_true chosen l
  unfolding literal_true
  same_literal k l e =
      let h = both_true (k.feature == l.feature) (cond k.value l.value (not l.value)) e in
      ap₂ (λ (f : ℕ) (b : Bool). equals (chosen f) b) (eqb-true k.feature l.feature h.0) (same_value k.value l.value h.1)

  has_true : (c : List Literal) (l : Literal) → has c l ≡ true → literal_true chosen l ≡ true → clause_true chosen c ≡ true
  unfolding clause_true
  has_true [] l e t = absurd cc
  has_true (k ∷ c) l e t = go (is_same k l) refl e (λ e. has_true c l e t)
    where
      go : (b : Bool) → is_same k l ≡ b → (b || has c l) ≡ true → (has c l ≡ true → clause_true chosen c ≡ true) → (literal_true chosen k || clause_true chosen c) ≡ true
      go true is e later = ap (λ (x : Bool). x || clause_true chosen c) (same_literal k l is ∙ t)
      go false is e later = ap (λ (x : Bool). literal_true chosen k || x) (later e) ∙ or_true (literal_true chosen k)

  -- a literal that a clause has adds nothing to it
  had : (c rest d : List Literal) (l : Literal) (t : Bool) → literal_true chosen l ≡ t → has c l ≡ true → (clause_true chosen c || clause_true chosen rest) ≡ (clause_true chosen c || clause_true chosen d)
      → (clause_true chosen c || clause_true chosen rest) ≡ (clause_true chosen c || (t || clause_true chosen d))
  had c rest d l true is e so =
      let yes = has_true c l e is in
      ap (λ (b : Bool). b || clause_true chosen rest) yes ∙ sym (ap (λ (b : Bool). b || (true || clause_true chosen d)) yes)
  had c rest d l false is e so = so

  new_one : (c rest d : List Literal) (l : Literal) → (clause_true chosen c || clause_true chosen rest) ≡ (clause_true chosen c || clause_true chosen d)
      → (clause_true chosen c || (literal_true chosen l || clause_true chosen rest)) ≡ (clause_true chosen c || (literal_true chosen l || clause_true chosen d))
  new_one c rest d l so =
      or_swap (clause_true chosen c) (literal_true chosen l) (clause_true chosen rest) ∙ ap (λ (b : Bool). literal_true chosen l || b) so
      ∙ sym (or_swap (clause_true chosen c) (literal_true chosen l) (clause_true chosen d))

  filtered : (c d : List Literal) → (clause_true chosen c || clause_true chosen (filter (λ l. not (has c l)) d)) ≡ (clause_true chosen c || clause_true chosen d)
  unfolding clause_true
  filtered c [] = refl
  filtered c (l ∷ d) = go (has c l) refl (filtered c d)
    where
      go : (b : Bool) → has c l ≡ b → (clause_true chosen c || clause_true chosen (filter (λ l. not (has c l)) d)) ≡ (clause_true chosen c || clause_true chosen d)
          → (clause_true chosen c || clause_true chosen (cond (not b) (l ∷ filter (λ l. not (has c l)) d) (filter (λ l. not (has c l)) d))) ≡ (clause_true chosen c || (literal_true chosen l || clause_true chosen d))
      go true e so = had c (filter (λ l. not (has c l)) d) d l (literal_true chosen l) refl e so
      go false e so = new_one c (filter (λ l. not (has c l)) d) d l so

  joined_true : (c d : List Literal) → clause_true chosen (joined c d) ≡ (clause_true chosen c || clause_true chosen d)
  joined_true c d = or_append c (filter (λ l. not (has c l)) d) ∙ filtered c d

  map_true : (c : List Literal) (ds : List (List Literal)) → all_met chosen (map (joined c) ds) ≡ (clause_true chosen c || all_met chosen ds)
  unfolding all_met
  map_true c [] = sym (or_true (clause_true chosen c))
  map_true c (d ∷ ds) = ap₂ (λ (a b : Bool). a && b) (joined_true c d) (map_true c ds) ∙ or_and (clause_true chosen c) (clause_true chosen d) (all_met chosen ds)

  crossed_true : (cs ds : List (List Literal)) → all_met chosen (crossed cs ds) ≡ (all_met chosen cs || all_met chosen ds)
  unfolding all_met
  crossed_true [] ds = refl
  crossed_true (c ∷ cs) ds =
      met_append (map (joined c) ds) (crossed cs ds) ∙ ap₂ (λ (a b : Bool). a && b) (map_true c ds) (crossed_true cs ds)
      ∙ and_or (clause_true chosen c) (all_met chosen cs) (all_met chosen ds)

  -- ---- the clauses of a constraint

  unit_true : (f : ℕ) (x : Bool) → chosen f ≡ x → all_met chosen ((record { feature = f; value = true } ∷ []) ∷ []) ≡ x
  unfolding all_met clause_true literal_true
  unit_true f true is = rw is refl
  unit_true f false is = rw is refl

  unit_false : (f : ℕ) (x : Bool) → chosen f ≡ x → all_met chosen ((record { feature = f; value = false } ∷ []) ∷ []) ≡ not x
  unfolding all_met clause_true literal_true
  unit_false f true is = rw is refl
  unit_false f false is = rw is refl

  mutual
    unfolding all_met clause_true

    is_true : (c : Constraint ℕ) → all_met chosen (clauses_when true c) ≡ truth chosen c
    is_true always = refl
    is_true never = refl
    is_true (feature f) = unit_true f (chosen f) refl
    is_true (negation c) = is_false c
    is_true (all cs) = each_true cs
    is_true (any cs) = some_true cs
    is_true (implication c d) =
        crossed_true (clauses_when false c) (clauses_when true d) ∙ ap₂ (λ (a b : Bool). a || b) (is_false c) (is_true d) ∙ implies_or (truth chosen c) (truth chosen d)
    is_true (equivalence c d) =
        met_append (crossed (clauses_when false c) (clauses_when true d)) (crossed (clauses_when true c) (clauses_when false d))
        ∙ ap₂ (λ (a b : Bool). a && b) (crossed_true (clauses_when false c) (clauses_when true d) ∙ ap₂ (λ (a b : Bool). a || b) (is_false c) (is_true d))
        (crossed_true (clauses_when true c) (clauses_when false d) ∙ ap₂ (λ (a b : Bool). a || b) (is_true c) (is_false d))
        ∙ equals_both (truth chosen c) (truth chosen d)

    is_false : (c : Constraint ℕ) → all_met chosen (clauses_when false c) ≡ not (truth chosen c)
    is_false always = refl
    is_false never = refl
    is_false (feature f) = unit_false f (chosen f) refl
    is_false (negation c) = is_true c ∙ sym (not_not (truth chosen c))
    is_false (all cs) = some_false cs
    is_false (any cs) = each_false cs
    is_false (implication c d) =
        met_append (clauses_when true c) (clauses_when false d) ∙ ap₂ (λ (a b : Bool). a && b) (is_true c) (is_false d) ∙ implies_not (truth chosen c) (truth chosen d)
    is_false (equivalence c d) =
        met_append (crossed (clauses_when true c) (clauses_when true d)) (crossed (clauses_when false c) (clauses_when false d))
        ∙ ap₂ (λ (a b : Bool). a && b) (crossed_true (clauses_when true c) (clauses_when true d) ∙ ap₂ (λ (a b : Bool). a || b) (is_true c) (is_true d))
        (crossed_true (clauses_when false c) (clauses_when false d) ∙ ap₂ (λ (a b : Bool). a || b) (is_false c) (is_false d))
        ∙ equals_not (truth chosen c) (truth chosen d)

    each_true : (cs : Parts ℕ) → all_met chosen (each_when true cs) ≡ all_true chosen cs
    each_true no_parts = refl
    each_true (part c cs) = met_append (clauses_when true c) (each_when true cs) ∙ ap₂ (λ (a b : Bool). a && b) (is_true c) (each_true cs)

    each_false : (cs : Parts ℕ) → all_met chosen (each_when false cs) ≡ not (any_true chosen cs)
    each_false no_parts = refl
    each_false (part c cs) =
        met_append (clauses_when false c) (each_when false cs) ∙ ap₂ (λ (a b : Bool). a && b) (is_false c) (each_false cs) ∙ not_or (truth chosen c) (any_true chosen cs)

    some_true : (cs : Parts ℕ) → all_met chosen (some_when true cs) ≡ any_true chosen cs
    some_true no_parts = refl
    some_true (part c cs) = crossed_true (clauses_when true c) (some_when true cs) ∙ ap₂ (λ (a b : Bool). a || b) (is_true c) (some_true cs)

    some_false : (cs : Parts ℕ) → all_met chosen (some_when false cs) ≡ not (all_true chosen cs)
    some_false no_parts = refl
    some_false (part c cs) =
        crossed_true (clauses_when false c) (some_when false cs) ∙ ap₂ (λ (a b : Bool). a || b) (is_false c) (some_false cs) ∙ not_and (truth chosen c) (all_true chosen cs)

  -- ---- from tests to what they test

  value_is : (a b : Bool) → equals a b ≡ true → a ≡ b
  value_is true true e = refl
  value_is true false e = absurd cc
  value_is false true e = absurd cc
  value_is false false e = refl

  equals_self : (a : Bool) → equals a a ≡ true
  equals_self true = refl
  equals_self false = refl

  clause_met : (c : List Literal) → clause_true chosen c ≡ true → MeetsClause chosen c
  unfolding clause_true literal_true
  clause_met [] e = absurd cc
  clause_met (l ∷ c) e = go (literal_true chosen l) refl e (λ e. clause_met c e)
    where
      go : (t : Bool) → literal_true chosen l ≡ t → (t || clause_true chosen c) ≡ true → (clause_true chosen c ≡ true → MeetsClause chosen c) → IsTrueIn chosen l ⊎ MeetsClause chosen c
      go true is e later = inl (value_is (chosen l.feature) l.value is)
      go false is e later = inr (later e)

  clause_test : (c : List Literal) → MeetsClause chosen c → clause_true chosen c ≡ true
  unfolding clause_true literal_true
  clause_test [] m = absurd m
  clause_test (l ∷ c) (inl is) =
      let yes : literal_true chosen l ≡ true = ap (λ (b : Bool). equals b l.value) is ∙ equals_self l.value in ap (λ (t : Bool). t || clause_true chosen c) yes
  clause_test (l ∷ c) (inr m) = ap (λ (t : Bool). literal_true chosen l || t) (clause_test c m) ∙ or_true (literal_true chosen l)

  all_from_test : (cs : List (List Literal)) → all_met chosen cs ≡ true → AllByRecursion (MeetsClause chosen) cs
  unfolding all_met
  all_from_test [] e = tt
  all_from_test (c ∷ cs) e = let h = both_true (clause_true chosen c) (all_met chosen cs) e in (clause_met c h.0, all_from_test cs h.1)

  test_from_all : (cs : List (List Literal)) → AllByRecursion (MeetsClause chosen) cs → all_met chosen cs ≡ true
  unfolding all_met
  test_from_all [] m = refl
  test_from_all (c ∷ cs) m = ap₂ (λ (a b : Bool). a && b) (clause_test c m.0) (test_from_all cs m.1)

-- the clauses mean the rule
pub clauses_mean : (c : Constraint ℕ) (chosen : ℕ → Bool) → IsMet c chosen ↔ AllByRecursion (MeetsClause chosen) (clauses_of c)
clauses_mean c chosen = (λ t. all_from_test chosen (clauses_of c) (is_true chosen c ∙ t), λ m. sym (is_true chosen c) ∙ test_from_all chosen (clauses_of c) m)
