-- The clauses of a rule name the features of the rule.
use Rattle.std.proofs.Common.{ℕ, ◌<◌, Bool, true, false, cond, List, [], ◌∷◌, ◌++◌, map}
use Rattle.std.specs.Prelude.{not, filter}
use Rattle.std.specs.List.{AllByRecursion}
use Rattle.vpg_rules.specs.declared.clause.Literal.{Literal}
use Rattle.vpg_rules.specs.Constraint.{Constraint, Parts, always, never, feature, negation, all, any, implication, equivalence, no_parts, part, IsBelow, AreBelow}
use Rattle.vpg_rules.specs.Clauses.{has, joined, crossed, clauses_when, each_when, some_when}

abbrev ClauseBelow : ℕ → List Literal → Type 0
ClauseBelow n c = AllByRecursion (λ l. l.feature < n) c

abbrev pub ClausesBelow : ℕ → List (List Literal) → Type 0
ClausesBelow n cs = AllByRecursion (AllByRecursion (λ l. l.feature < n)) cs

all_append : {X : Type 0} (P : X → Type 0) (xs ys : List X) → AllByRecursion P xs → AllByRecursion P ys → AllByRecursion P (xs ++ ys)
all_append P [] ys h k = k
all_append P (x ∷ xs) ys h k = (h.0, all_append P xs ys h.1 k)

all_filter : {X : Type 0} (P : X → Type 0) (p : X → Bool) (xs : List X) → AllByRecursion P xs → AllByRecursion P (filter p xs)
all_filter P p [] h = tt
all_filter P p (x ∷ xs) h = go (p x) (all_filter P p xs h.1)
  where
    go : (t : Bool) → AllByRecursion P (filter p xs) → AllByRecursion P (cond t (x ∷ filter p xs) (filter p xs))
    go true later = (h.0, later)
    go false later = later

module _ (n : ℕ) where
  joined_below : (c d : List Literal) → ClauseBelow n c → ClauseBelow n d → ClauseBelow n (joined c d)
  joined_below c d h k = all_append (λ (l : Literal). l.feature < n) c _ h (all_filter (λ (l : Literal). l.feature < n) (λ l. not (has c l)) d k)

  map_below : (c : List Literal) (ds : List (List Literal)) → ClauseBelow n c → ClausesBelow n ds → ClausesBelow n (map (joined c) ds)
  map_below c [] h k = tt
  map_below c (d ∷ ds) h k = (joined_below c d h k.0, map_below c ds h k.1)

  crossed_below : (cs ds : List (List Literal)) → ClausesBelow n cs → ClausesBelow n ds → ClausesBelow n (crossed cs ds)
  crossed_below [] ds h k = tt
  crossed_below (c ∷ cs) ds h k = all_append (ClauseBelow n) (map (joined c) ds) _ (map_below c ds h.0 k) (crossed_below cs ds h.1 k)

  put : (cs ds : List (List Literal)) → ClausesBelow n cs → ClausesBelow n ds → ClausesBelow n (cs ++ ds)
  put cs ds h k = all_append (ClauseBelow n) cs ds h k

  mutual
    pub when_below : (b : Bool) (c : Constraint ℕ) → IsBelow n c → ClausesBelow n (clauses_when b c)
    when_below true always h = tt
    when_below false always h = (tt, tt)
    when_below true never h = (tt, tt)
    when_below false never h = tt
    when_below b (feature f) h = ((h, tt), tt)
    when_below b (negation c) h = when_below (not b) c h
    when_below true (all cs) h = each_below true cs h
    when_below false (all cs) h = some_below false cs h
    when_below true (any cs) h = some_below true cs h
    when_below false (any cs) h = each_below false cs h
    when_below true (implication c d) h = crossed_below _ _ (when_below false c h.0) (when_below true d h.1)
    when_below false (implication c d) h = put _ _ (when_below true c h.0) (when_below false d h.1)
    when_below true (equivalence c d) h =
        put _ _ (crossed_below _ _ (when_below false c h.0) (when_below true d h.1)) (crossed_below _ _ (when_below true c h.0) (when_below false d h.1))
    when_below false (equivalence c d) h =
        put _ _ (crossed_below _ _ (when_below true c h.0) (when_below true d h.1)) (crossed_below _ _ (when_below false c h.0) (when_below false d h.1))

    each_below : (b : Bool) (cs : Parts ℕ) → AreBelow n cs → ClausesBelow n (each_when b cs)
    each_below b no_parts h = tt
    each_below b (part c cs) h = put _ _ (when_below b c h.0) (each_below b cs h.1)

    some_below : (b : Bool) (cs : Parts ℕ) → AreBelow n cs → ClausesBelow n (some_when b cs)
    some_below b no_parts h = (tt, tt)
    some_below b (part c cs) h = crossed_below _ _ (when_below b c h.0) (some_below b cs h.1)
