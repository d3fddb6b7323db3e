-- The features that a rule names, and the number of its clauses.
use Rattle.std.proofs.Common.{◌≡◌, ℕ, zero, suc, ◌+◌, ◌*◌, ◌<◌, Bool, true, false, List, [], ◌∷◌, ◌++◌, length, get_or, refl, sym, ap, ap₂, ◌∙◌, subst, arith}
use Rattle.std.specs.Prelude.{not}
use Rattle.std.specs.List.{AllByRecursion}
use Rattle.std.proofs.lemmas.List.{length-append}
use Rattle.vpg_rules.specs.Constraint.{Constraint, Parts, always, never, feature, negation, all, any, implication, equivalence, no_parts, part, renamed, each_renamed, features_in, all_features, IsBelow, AreBelow}
use Rattle.vpg_rules.specs.Clauses.{crossed, clauses_when, each_when, some_when, clauses_of, clause_count}
use Rattle.vpg_rules.specs.View.{constraint_of, constraints_of}
use Rattle.vpg_rules.specs.declared.rule.Rule.{Rule}
use Rattle.vpg_rules.proofs.Limits.{Lists, crossed_length}

all_append : {X : Type 0} (P : X → Type 0) (xs ys : List X) → AllByRecursion P xs → AllByRecursion P ys → AllByRecursion P (xs ++ ys)
all_append P [] ys h k = k
all_append P (x ∷ xs) ys h k = (h.0, all_append P xs ys h.1 k)

all_front : {X : Type 0} (P : X → Type 0) (xs ys : List X) → AllByRecursion P (xs ++ ys) → AllByRecursion P xs
all_front P [] ys h = tt
all_front P (x ∷ xs) ys h = (h.0, all_front P xs ys h.1)

all_back : {X : Type 0} (P : X → Type 0) (xs ys : List X) → AllByRecursion P (xs ++ ys) → AllByRecursion P ys
all_back P [] ys h = h
all_back P (x ∷ xs) ys h = all_back P xs ys h.1

-- ---- features below a number

module _ (n : ℕ) where
  abbrev Below : ℕ → Type 0
  Below f = f < n

  mutual
    pub below_each : (c : Constraint ℕ) → IsBelow n c → AllByRecursion (λ f. f < n) (features_in c)
    below_each always h = tt
    below_each never h = tt
    below_each (feature f) h = (h, tt)
    below_each (negation c) h = below_each c h
    below_each (all cs) h = parts_each cs h
    below_each (any cs) h = parts_each cs h
    below_each (implication c d) h = all_append Below (features_in c) (features_in d) (below_each c h.0) (below_each d h.1)
    below_each (equivalence c d) h = all_append Below (features_in c) (features_in d) (below_each c h.0) (below_each d h.1)

    parts_each : (cs : Parts ℕ) → AreBelow n cs → AllByRecursion (λ f. f < n) (all_features cs)
    parts_each no_parts h = tt
    parts_each (part c cs) h = all_append Below (features_in c) (all_features cs) (below_each c h.0) (parts_each cs h.1)

-- ---- other features

module _ {A : Type 0} (n : ℕ) (to : A → ℕ) where
  abbrev ToBelow : A → Type 0
  ToBelow a = to a < n

  mutual
    pub renamed_below : (c : Constraint A) → AllByRecursion (λ a. to a < n) (features_in c) → IsBelow n (renamed to c)
    renamed_below always h = tt
    renamed_below never h = tt
    renamed_below (feature f) h = h.0
    renamed_below (negation c) h = renamed_below c h
    renamed_below (all cs) h = parts_below cs h
    renamed_below (any cs) h = parts_below cs h
    renamed_below (implication c d) h = (renamed_below c (all_front ToBelow (features_in c) (features_in d) h), renamed_below d (all_back ToBelow (features_in c) (features_in d) h))
    renamed_below (equivalence c d) h = (renamed_below c (all_front ToBelow (features_in c) (features_in d) h), renamed_below d (all_back ToBelow (features_in c) (features_in d) h))

    parts_below : (cs : Parts A) → AllByRecursion (λ a. to a < n) (all_features cs) → AreBelow n (each_renamed to cs)
    parts_below no_parts h = tt
    parts_below (part c cs) h = (renamed_below c (all_front ToBelow (features_in c) (all_features cs) h), parts_below cs (all_back ToBelow (features_in c) (all_features cs) h))

  mutual
    pub below_renamed : (c : Constraint A) → IsBelow n (renamed to c) → AllByRecursion (λ a. to a < n) (features_in c)
    below_renamed always h = tt
    below_renamed never h = tt
    below_renamed (feature f) h = (h, tt)
    below_renamed (negation c) h = below_renamed c h
    below_renamed (all cs) h = below_parts cs h
    below_renamed (any cs) h = below_parts cs h
    below_renamed (implication c d) h = all_append ToBelow (features_in c) (features_in d) (below_renamed c h.0) (below_renamed d h.1)
    below_renamed (equivalence c d) h = all_append ToBelow (features_in c) (features_in d) (below_renamed c h.0) (below_renamed d h.1)

    below_parts : (cs : Parts A) → AreBelow n (each_renamed to cs) → AllByRecursion (λ a. to a < n) (all_features cs)
    below_parts no_parts h = tt
    below_parts (part c cs) h = all_append ToBelow (features_in c) (all_features cs) (below_renamed c h.0) (below_parts cs h.1)

module _ {A B : Type 0} (to : A → B) (back : B → A) where
  abbrev ComesBack : A → Type 0
  ComesBack a = back (to a) ≡ a

  -- renamed there and back
  mutual
    pub renamed_back : (c : Constraint A) → AllByRecursion (λ a. back (to a) ≡ a) (features_in c) → renamed back (renamed to c) ≡ c
    renamed_back always h = refl
    renamed_back never h = refl
    renamed_back (feature f) h = ap feature h.0
    renamed_back (negation c) h = ap negation (renamed_back c h)
    renamed_back (all cs) h = ap all (parts_back cs h)
    renamed_back (any cs) h = ap any (parts_back cs h)
    renamed_back (implication c d) h = ap₂ implication (renamed_back c (all_front ComesBack (features_in c) (features_in d) h)) (renamed_back d (all_back ComesBack (features_in c) (features_in d) h))
    renamed_back (equivalence c d) h = ap₂ equivalence (renamed_back c (all_front ComesBack (features_in c) (features_in d) h)) (renamed_back d (all_back ComesBack (features_in c) (features_in d) h))

    parts_back : (cs : Parts A) → AllByRecursion (λ a. back (to a) ≡ a) (all_features cs) → each_renamed back (each_renamed to cs) ≡ cs
    parts_back no_parts h = refl
    parts_back (part c cs) h = ap₂ part (renamed_back c (all_front ComesBack (features_in c) (all_features cs) h)) (parts_back cs (all_back ComesBack (features_in c) (all_features cs) h))

module _ {A B C : Type 0} (to : A → B) (then : B → C) (whole : A → C) (is : (a : A) → then (to a) ≡ whole a) where
  -- renamed twice
  mutual
    renamed_twice : (c : Constraint A) → renamed then (renamed to c) ≡ renamed whole c
    renamed_twice always = refl
    renamed_twice never = refl
    renamed_twice (feature f) = ap feature (is f)
    renamed_twice (negation c) = ap negation (renamed_twice c)
    renamed_twice (all cs) = ap all (parts_twice cs)
    renamed_twice (any cs) = ap any (parts_twice cs)
    renamed_twice (implication c d) = ap₂ implication (renamed_twice c) (renamed_twice d)
    renamed_twice (equivalence c d) = ap₂ equivalence (renamed_twice c) (renamed_twice d)

    parts_twice : (cs : Parts A) → each_renamed then (each_renamed to cs) ≡ each_renamed whole cs
    parts_twice no_parts = refl
    parts_twice (part c cs) = ap₂ part (renamed_twice c) (parts_twice cs)

-- ---- the number of clauses

pub count_renamed : {A B : Type 0} (to : A → B) (c : Constraint A) → clause_count (renamed to c) ≡ clause_count c
count_renamed to c = ap (λ d. length (clauses_of d)) (renamed_twice to (λ _. 0) (λ _. 0) (λ a. refl) c)

module _ (to : ℕ → ℕ) where
  cross : (a b c d : Lists) → length a ≡ length c → length b ≡ length d → length (crossed a b) ≡ length (crossed c d)
  cross a b c d e f = crossed_length a b ∙ ap₂ (λ m n. m * n) e f ∙ sym (crossed_length c d)

  put : (a b c d : Lists) → length a ≡ length c → length b ≡ length d → length (a ++ b) ≡ length (c ++ d)
  put a b c d e f = length-append a b ∙ ap₂ (λ m n. m + n) e f ∙ sym (length-append c d)

  mutual
    same_length : (b : Bool) (c : Constraint ℕ) → length (clauses_when b (renamed to c)) ≡ length (clauses_when b c)
    same_length true always = refl
    same_length false always = refl
    same_length true never = refl
    same_length false never = refl
    same_length b (feature f) = refl
    same_length b (negation c) = same_length (not b) c
    same_length true (all cs) = each_length true cs
    same_length false (all cs) = some_length false cs
    same_length true (any cs) = some_length true cs
    same_length false (any cs) = each_length false cs
    same_length true (implication c d) = cross _ _ _ _ (same_length false c) (same_length true d)
    same_length false (implication c d) = put _ _ _ _ (same_length true c) (same_length false d)
    same_length true (equivalence c d) =
        put _ _ _ _ (cross _ _ _ _ (same_length false c) (same_length true d)) (cross _ _ _ _ (same_length true c) (same_length false d))
    same_length false (equivalence c d) =
        put _ _ _ _ (cross _ _ _ _ (same_length true c) (same_length true d)) (cross _ _ _ _ (same_length false c) (same_length false d))

    each_length : (b : Bool) (cs : Parts ℕ) → length (each_when b (each_renamed to cs)) ≡ length (each_when b cs)
    each_length b no_parts = refl
    each_length b (part c cs) = put _ _ _ _ (same_length b c) (each_length b cs)

    some_length : (b : Bool) (cs : Parts ℕ) → length (some_when b (each_renamed to cs)) ≡ length (some_when b cs)
    some_length b no_parts = refl
    some_length b (part c cs) = cross _ _ _ _ (same_length b c) (some_length b cs)

pub count_is : (c : Constraint ℕ) → length (clauses_of c) ≡ clause_count c
count_is c = sym (same_length (λ _. 0) true c)

-- ---- a part of a list

pub part_below : (n : ℕ) (rules : List Rule) (i : ℕ) (c : Rule) → i < length rules → c ≡ get_or rules i c → AreBelow n (constraints_of rules) → IsBelow n (constraint_of c)
part_below n [] i c lt is h = absurd (omega arith)
part_below n (x ∷ xs) zero c lt is h = subst (λ (r : Rule). IsBelow n (constraint_of r)) (sym is) h.0
part_below n (x ∷ xs) (suc i) c lt is h = part_below n xs i c (omega arith) is h.1
