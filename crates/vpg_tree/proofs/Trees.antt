-- A tree with one more group, feature or constraint is a tree.
use Rattle.std.proofs.Common.{◌≡◌, ℕ, zero, suc, ◌+◌, ◌<◌, ◌≤◌, List, [], ◌∷◌, ◌++◌, length, arith, length-append}
use Rattle.std.specs.Prelude.{slice_get, IsSomeAnd}
use Rattle.std.specs.List.{AllByRecursion}
use Rattle.vpg_features.specs.Names.{AreNames}
use Rattle.vpg_rules.specs.Constraint.{Constraint, Parts, always, never, feature, negation, all, any, implication, equivalence, no_parts, part, IsBelow, AreBelow}
use Rattle.vpg_tree.specs.Tree.{Group, ArePlaced, IsTree}

pub all_append : {X : Type 0} (P : X → Type 0) (xs ys : List X) → AllByRecursion P xs → AllByRecursion P ys → AllByRecursion P (xs ++ ys)
all_append P [] ys h k = k
all_append P (x ∷ xs) ys h k = (h.0, all_append P xs ys h.1 k)

pub all_weaker : {X : Type 0} (P Q : X → Type 0) → ((x : X) → P x → Q x) → (xs : List X) → AllByRecursion P xs → AllByRecursion Q xs
all_weaker P Q weaker [] h = tt
all_weaker P Q weaker (x ∷ xs) h = (weaker x h.0, all_weaker P Q weaker xs h.1)

mutual
  below_more : (n m : ℕ) → n ≤ m → (c : Constraint ℕ) → IsBelow n c → IsBelow m c
  below_more n m le always h = tt
  below_more n m le never h = tt
  below_more n m le (feature f) h = omega arith
  below_more n m le (negation c) h = below_more n m le c h
  below_more n m le (all cs) h = parts_more n m le cs h
  below_more n m le (any cs) h = parts_more n m le cs h
  below_more n m le (implication c d) h = (below_more n m le c h.0, below_more n m le d h.1)
  below_more n m le (equivalence c d) h = (below_more n m le c h.0, below_more n m le d h.1)

  parts_more : (n m : ℕ) → n ≤ m → (cs : Parts ℕ) → AreBelow n cs → AreBelow m cs
  parts_more n m le no_parts h = tt
  parts_more n m le (part c cs) h = (below_more n m le c h.0, parts_more n m le cs h.1)

some_append : {X : Type 0} (P : X → Type 0) (xs : List X) (y : X) (k : ℕ) → IsSomeAnd (slice_get xs k) P → IsSomeAnd (slice_get (xs ++ y ∷ []) k) P
some_append P [] y k h = absurd h
some_append P (x ∷ xs) y zero h = h
some_append P (x ∷ xs) y (suc k) h = some_append P xs y k h

some_of_all : {X : Type 0} (P : X → Type 0) (xs : List X) (k : ℕ) → k < length xs → AllByRecursion P xs → IsSomeAnd (slice_get xs k) P
some_of_all P [] k lt h = absurd (omega arith)
some_of_all P (x ∷ xs) zero lt h = h.0
some_of_all P (x ∷ xs) (suc k) lt h = some_of_all P xs k (omega arith) h.1

placed_group : (groups : List Group) (g : Group) (first : ℕ) (places : List ℕ) → ArePlaced groups first places → ArePlaced (groups ++ g ∷ []) first places
placed_group groups g first [] h = tt
placed_group groups g first (place ∷ places) h =
    (some_append (λ group. group.parent < first) groups g place h.0, placed_group groups g (suc first) places h.1)

placed_feature : (groups : List Group) (n first : ℕ) (places : List ℕ) (place : ℕ) → ArePlaced groups first places → AllByRecursion (λ group. group.parent < n) groups → place < length groups → n ≡ first + length places → ArePlaced groups first (places ++ place ∷ [])
placed_feature groups n first [] place h parents lt e =
    (some_of_all (λ group. group.parent < first) groups place lt (all_weaker (λ (group : Group). group.parent < n) (λ group. group.parent < first) (λ group k. omega arith) groups parents), tt)
placed_feature groups n first (p ∷ places) place h parents lt e =
    (h.0, placed_feature groups n (suc first) places place h.1 parents lt (omega arith))

pub tree_with_group : (names : List (List ℕ)) (groups : List Group) (places : List ℕ) (constraints : List (Constraint ℕ)) (g : Group) →
    IsTree (record { names = names; groups = groups; places = places; constraints = constraints }) → g.parent < length names →
    IsTree (record { names = names; groups = groups ++ g ∷ []; places = places; constraints = constraints })
tree_with_group names groups places constraints g is lt = record {
  names = is.names;
  each_placed = is.each_placed;
  parents = all_append (λ (group : Group). group.parent < length names) groups (g ∷ []) is.parents (lt, tt);
  members = placed_group groups g 1 places is.members;
  constraints = is.constraints;
}

pub tree_with_feature : (names : List (List ℕ)) (groups : List Group) (places : List ℕ) (constraints : List (Constraint ℕ)) (name : List ℕ) (place : ℕ) →
    IsTree (record { names = names; groups = groups; places = places; constraints = constraints }) → AreNames (names ++ name ∷ []) → place < length groups →
    IsTree (record { names = names ++ name ∷ []; groups = groups; places = places ++ place ∷ []; constraints = constraints })
tree_with_feature names groups places constraints name place is are lt =
    let one_more : length (names ++ name ∷ []) ≡ length names + 1 = omega (arith, length-append names (name ∷ [])) in
    record {
      names = are;
      each_placed = omega (arith, one_more, is.each_placed, length-append places (place ∷ []));
      parents = all_weaker (λ (group : Group). group.parent < length names) (λ group. group.parent < length (names ++ name ∷ [])) (λ group h. omega (arith, one_more)) groups is.parents;
      members = placed_feature groups (length names) 1 places place is.members is.parents lt (omega (arith, is.each_placed));
      constraints = all_weaker (IsBelow (length names)) (IsBelow (length (names ++ name ∷ []))) (below_more (length names) (length (names ++ name ∷ [])) (omega (arith, one_more))) constraints is.constraints;
    }
