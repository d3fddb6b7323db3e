-- A guard that names no feature twice is sharp: what is unknown can still be true, and can still be false.
use Rattle.std.proofs.Common.{◌≡◌, ◌≢◌, ℕ, Bool, true, false, List, [], ◌∷◌, ◌++◌, refl, sym, ap, subst, ◌∙◌, inl, inr}
use Rattle.std.specs.Prelude.{◌&&◌, ◌||◌, not, map, slice_index_or}
use Rattle.vpg_guards.specs.declared.tri.Tri.{Tri}
use Rattle.vpg_guards.specs.declared.tri.Tri.TheVariants.{No, Unknown, Yes}
use Rattle.vpg_guards.specs.Formula.{Formula, Parts, always, never, feature, negation, all, any, no_parts, part, truth, all_true, any_true, named, named_by}
use Rattle.vpg_guards.specs.Known.{tri_not, tri_and, tri_or, kleene, kleene_all, kleene_any, Agrees, IsCompletion}
use Rattle.vpg_guards.proofs.Kleene.{known_holds}
use Rattle.vpg_blake.specs.Blake.{IsCertain, tri_of}
use Rattle.vpg_blake.specs.Sharp.{IsSharp}
use Rattle.vpg_blake.proofs.Primes.{EachNumber, Lacks, Apart, put, put_same, put_other, put_completes, is_yes, least_completes}
use Rattle.vpg_blake.proofs.Named.{Among, number_weaker, number_left, number_right, number_itself, IsAlikeAt, truth_alike}

-- ---- two lists of numbers of which none stands twice

apart_left : (xs ys : List ℕ) → Apart (xs ++ ys) → Apart xs
apart_left [] ys h = tt
apart_left (x ∷ xs) ys h = (number_left (λ y. y ≢ x) xs ys h.0, apart_left xs ys h.1)

apart_right : (xs ys : List ℕ) → Apart (xs ++ ys) → Apart ys
apart_right [] ys h = h
apart_right (x ∷ xs) ys h = apart_right xs ys h.1

lacks_among : (x : ℕ) (ys : List ℕ) → EachNumber (λ y. y ≢ x) ys → Among x ys → ⊥
lacks_among x [] h a = absurd a
lacks_among x (y ∷ ys) h (inl e) = h.0 e
lacks_among x (y ∷ ys) h (inr a) = lacks_among x ys h.1 a

not_both : (xs ys : List ℕ) → Apart (xs ++ ys) → (y : ℕ) → Among y xs → Among y ys → ⊥
not_both [] ys h y a b = absurd a
not_both (x ∷ xs) ys h y (inl e) b = lacks_among x ys (number_right (λ z. z ≢ x) xs ys h.0) (subst (λ (z : ℕ). Among z ys) (sym e) b)
not_both (x ∷ xs) ys h y (inr a) b = not_both xs ys h.1 y a b

among_left : (y : ℕ) (xs ys : List ℕ) → Among y xs → Among y (xs ++ ys)
among_left y [] ys a = absurd a
among_left y (x ∷ xs) ys (inl e) = inl e
among_left y (x ∷ xs) ys (inr a) = inr (among_left y xs ys a)

among_right : (y : ℕ) (xs ys : List ℕ) → Among y ys → Among y (xs ++ ys)
among_right y [] ys a = a
among_right y (x ∷ xs) ys a = inr (among_right y xs ys a)

-- ---- sets that agree with what is known

-- one that is as the base but for these features, and of which that holds
record Reaches (known : List Tri) (base : List Bool) (names : List ℕ) (P : List Bool → Type 0) : Type 0 where
  set : List Bool
  done : IsCompletion known set
  same : (y : ℕ) → (Among y names → ⊥) → slice_index_or set y false ≡ slice_index_or base y false
  holds : P set

-- the unknown guard can be true, and can be false
abbrev IsOpen : List Tri → List ℕ → (List Bool → Bool) → Type 0
IsOpen known names f = (base : List Bool) → IsCompletion known base → (b : Bool) → Reaches known base names (λ set. f set ≡ b)

module _ (known : List Tri) where
  yes_holds : (set : List Bool) (g : Formula) → IsCompletion known set → kleene known g ≡ Yes → truth set g ≡ true
  yes_holds set g done e = subst (λ (t : Tri). Agrees t (truth set g)) e (known_holds known set g done)

  no_holds : (set : List Bool) (g : Formula) → IsCompletion known set → kleene known g ≡ No → truth set g ≡ false
  no_holds set g done e = subst (λ (t : Tri). Agrees t (truth set g)) e (known_holds known set g done)

-- ---- two parts, whose features differ

and_are : (a b : Bool) → a ≡ true → b ≡ true → (a && b) ≡ true
and_are true b e f = f
and_are false b e f = absurd cc

and_left : (a b : Bool) → a ≡ false → (a && b) ≡ false
and_left true b e = absurd cc
and_left false b e = refl

and_right : (a b : Bool) → b ≡ false → (a && b) ≡ false
and_right true b e = e
and_right false b e = refl

or_are : (a b : Bool) → a ≡ false → b ≡ false → (a || b) ≡ false
or_are true b e f = absurd cc
or_are false b e f = f

or_left : (a b : Bool) → a ≡ true → (a || b) ≡ true
or_left true b e = refl
or_left false b e = absurd cc

or_right : (a b : Bool) → b ≡ true → (a || b) ≡ true
or_right true b e = refl
or_right false b e = e

module _ (known : List Tri) (g : Formula) (names : List ℕ) (rest : List Bool → Bool)
    (apart : (y : ℕ) → Among y (named g) → Among y names → ⊥) where
  -- a set for one part is one for both
  by_first : (base : List Bool) (P Q : List Bool → Type 0) → Reaches known base (named g) P → ((set : List Bool) → IsCompletion known set → P set → Q set) → Reaches known base (named g ++ names) Q
  by_first base P Q r h = record {
    set = r.set;
    done = r.done;
    same = λ y other. r.same y (λ a. other (among_left y (named g) names a));
    holds = h r.set r.done r.holds;
  }

  by_second : (base : List Bool) (P Q : List Bool → Type 0) → Reaches known base names P → ((set : List Bool) → IsCompletion known set → P set → Q set) → Reaches known base (named g ++ names) Q
  by_second base P Q r h = record {
    set = r.set;
    done = r.done;
    same = λ y other. r.same y (λ a. other (among_right y (named g) names a));
    holds = h r.set r.done r.holds;
  }

  -- the first part's, and then the second's
  by_both : (base : List Bool) (a b : Bool) (Q : List Bool → Type 0) → IsCompletion known base → IsOpen known (named g) (λ set. truth set g) → IsOpen known names rest → ((set : List Bool) → truth set g ≡ a → rest set ≡ b → Q set) → Reaches known base (named g ++ names) Q
  by_both base a b Q done one two h =
      let r = one base done a in
      let s = two r.set r.done b in
      let kept : truth s.set g ≡ truth r.set g =
      truth_alike s.set r.set g (number_weaker (λ y. Among y (named g)) (IsAlikeAt s.set r.set) (λ y among. s.same y (λ other. apart y among other)) (named g) (number_itself (named g))) in
      record {
        set = s.set;
        done = s.done;
        same = λ y other. s.same y (λ a. other (among_right y (named g) names a)) ∙ r.same y (λ a. other (among_left y (named g) names a));
        holds = h s.set (kept ∙ r.holds) s.holds;
      }

all_open : (known : List Tri) (g : Formula) (gs : Parts) → ((y : ℕ) → Among y (named g) → Among y (named_by gs) → ⊥) → (t u : Tri) → kleene known g ≡ t → kleene_all known gs ≡ u → tri_and t u ≡ Unknown →
    (kleene known g ≡ Unknown → IsOpen known (named g) (λ set. truth set g)) → (kleene_all known gs ≡ Unknown → IsOpen known (named_by gs) (λ set. all_true set gs)) →
    IsOpen known (named g ++ named_by gs) (λ set. truth set g && all_true set gs)
all_open known g gs apart No u et eu e one two base done b = absurd cc
all_open known g gs apart Unknown No et eu e one two base done b = absurd cc
all_open known g gs apart Unknown Unknown et eu e one two base done true =
    by_both known g (named_by gs) (λ set. all_true set gs) apart base true true (λ set. (truth set g && all_true set gs) ≡ true) done (one et) (two eu) (λ set p q. and_are (truth set g) (all_true set gs) p q)
all_open known g gs apart Unknown Unknown et eu e one two base done false =
    by_first known g (named_by gs) (λ set. all_true set gs) apart base (λ set. truth set g ≡ false) (λ set. (truth set g && all_true set gs) ≡ false) (one et base done false) (λ set full p. and_left (truth set g) (all_true set gs) p)
all_open known g gs apart Unknown Yes et eu e one two base done true =
    by_first known g (named_by gs) (λ set. all_true set gs) apart base (λ set. truth set g ≡ true) (λ set. (truth set g && all_true set gs) ≡ true) (one et base done true) (λ set full p. and_are (truth set g) (all_true set gs) p (yes_holds known set (all gs) full eu))
all_open known g gs apart Unknown Yes et eu e one two base done false =
    by_first known g (named_by gs) (λ set. all_true set gs) apart base (λ set. truth set g ≡ false) (λ set. (truth set g && all_true set gs) ≡ false) (one et base done false) (λ set full p. and_left (truth set g) (all_true set gs) p)
all_open known g gs apart Yes No et eu e one two base done b = absurd cc
all_open known g gs apart Yes Unknown et eu e one two base done true =
    by_second known g (named_by gs) (λ set. all_true set gs) apart base (λ set. all_true set gs ≡ true) (λ set. (truth set g && all_true set gs) ≡ true) (two eu base done true) (λ set full q. and_are (truth set g) (all_true set gs) (yes_holds known set g full et) q)
all_open known g gs apart Yes Unknown et eu e one two base done false =
    by_second known g (named_by gs) (λ set. all_true set gs) apart base (λ set. all_true set gs ≡ false) (λ set. (truth set g && all_true set gs) ≡ false) (two eu base done false) (λ set full q. and_right (truth set g) (all_true set gs) q)
all_open known g gs apart Yes Yes et eu e one two base done b = absurd cc

any_open : (known : List Tri) (g : Formula) (gs : Parts) → ((y : ℕ) → Among y (named g) → Among y (named_by gs) → ⊥) → (t u : Tri) → kleene known g ≡ t → kleene_any known gs ≡ u → tri_or t u ≡ Unknown →
    (kleene known g ≡ Unknown → IsOpen known (named g) (λ set. truth set g)) → (kleene_any known gs ≡ Unknown → IsOpen known (named_by gs) (λ set. any_true set gs)) →
    IsOpen known (named g ++ named_by gs) (λ set. truth set g || any_true set gs)
any_open known g gs apart Yes u et eu e one two base done b = absurd cc
any_open known g gs apart Unknown Yes et eu e one two base done b = absurd cc
any_open known g gs apart Unknown Unknown et eu e one two base done false =
    by_both known g (named_by gs) (λ set. any_true set gs) apart base false false (λ set. (truth set g || any_true set gs) ≡ false) done (one et) (two eu) (λ set p q. or_are (truth set g) (any_true set gs) p q)
any_open known g gs apart Unknown Unknown et eu e one two base done true =
    by_first known g (named_by gs) (λ set. any_true set gs) apart base (λ set. truth set g ≡ true) (λ set. (truth set g || any_true set gs) ≡ true) (one et base done true) (λ set full p. or_left (truth set g) (any_true set gs) p)
any_open known g gs apart Unknown No et eu e one two base done false =
    by_first known g (named_by gs) (λ set. any_true set gs) apart base (λ set. truth set g ≡ false) (λ set. (truth set g || any_true set gs) ≡ false) (one et base done false) (λ set full p. or_are (truth set g) (any_true set gs) p (no_holds known set (any gs) full eu))
any_open known g gs apart Unknown No et eu e one two base done true =
    by_first known g (named_by gs) (λ set. any_true set gs) apart base (λ set. truth set g ≡ true) (λ set. (truth set g || any_true set gs) ≡ true) (one et base done true) (λ set full p. or_left (truth set g) (any_true set gs) p)
any_open known g gs apart No Yes et eu e one two base done b = absurd cc
any_open known g gs apart No Unknown et eu e one two base done false =
    by_second known g (named_by gs) (λ set. any_true set gs) apart base (λ set. any_true set gs ≡ false) (λ set. (truth set g || any_true set gs) ≡ false) (two eu base done false) (λ set full q. or_are (truth set g) (any_true set gs) (no_holds known set g full et) q)
any_open known g gs apart No Unknown et eu e one two base done true =
    by_second known g (named_by gs) (λ set. any_true set gs) apart base (λ set. any_true set gs ≡ true) (λ set. (truth set g || any_true set gs) ≡ true) (two eu base done true) (λ set full q. or_right (truth set g) (any_true set gs) q)
any_open known g gs apart No No et eu e one two base done b = absurd cc

-- ---- guards

not_known : (t : Tri) → tri_not t ≡ Unknown → t ≡ Unknown
not_known No e = absurd cc
not_known Unknown e = refl
not_known Yes e = absurd cc

turned : (a b : Bool) → a ≡ not b → not a ≡ b
turned true true e = absurd cc
turned true false e = refl
turned false true e = refl
turned false false e = absurd cc

mutual
  open_guard : (known : List Tri) (g : Formula) → Apart (named g) → kleene known g ≡ Unknown → IsOpen known (named g) (λ set. truth set g)
  open_guard known always apart e base done b = absurd cc
  open_guard known never apart e base done b = absurd cc
  open_guard known (feature f) apart e base done b = record {
    set = put f b base;
    done = put_completes known f b base (subst (λ (t : Tri). Agrees t b) (sym e) tt) done;
    same = λ y other. put_other f y b base (λ is. other (inl (sym is)));
    holds = put_same f b base;
  }
  open_guard known (negation g) apart e base done b =
      let r = open_guard known g apart (not_known (kleene known g) e) base done (not b) in
      record { set = r.set; done = r.done; same = r.same; holds = turned (truth r.set g) b r.holds }
  open_guard known (all gs) apart e base done b = open_all known gs apart e base done b
  open_guard known (any gs) apart e base done b = open_any known gs apart e base done b

  open_all : (known : List Tri) (gs : Parts) → Apart (named_by gs) → kleene_all known gs ≡ Unknown → IsOpen known (named_by gs) (λ set. all_true set gs)
  open_all known no_parts apart e base done b = absurd cc
  open_all known (part g gs) apart e base done b =
      all_open known g gs (not_both (named g) (named_by gs) apart) (kleene known g) (kleene_all known gs) refl refl e
      (open_guard known g (apart_left (named g) (named_by gs) apart)) (open_all known gs (apart_right (named g) (named_by gs) apart)) base done b

  open_any : (known : List Tri) (gs : Parts) → Apart (named_by gs) → kleene_any known gs ≡ Unknown → IsOpen known (named_by gs) (λ set. any_true set gs)
  open_any known no_parts apart e base done b = absurd cc
  open_any known (part g gs) apart e base done b =
      any_open known g gs (not_both (named g) (named_by gs) apart) (kleene known g) (kleene_any known gs) refl refl e
      (open_guard known g (apart_left (named g) (named_by gs) apart)) (open_any known gs (apart_right (named g) (named_by gs) apart)) base done b

not_itself : (b : Bool) → not b ≡ b → ⊥
not_itself true e = cc
not_itself false e = cc

pub named_once_is_sharp : (g : Formula) → Apart (named g) → IsSharp g
named_once_is_sharp g apart known b certain = at (kleene known g) refl
  where
    least : List Bool
    least = map is_yes known

    done : IsCompletion known least
    done = least_completes known

    at : (t : Tri) → kleene known g ≡ t → kleene known g ≡ tri_of b
    at No e = e ∙ ap tri_of (sym (no_holds known least g done e) ∙ certain least done)
    at Yes e = e ∙ ap tri_of (sym (yes_holds known least g done e) ∙ certain least done)
    at Unknown e =
        let r = open_guard known g apart e least done (not b) in
        absurd (not_itself b (sym r.holds ∙ certain r.set r.done))
