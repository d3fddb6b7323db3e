-- The configurations of a tree are the sets with the root that meet each line of its diagram.
use Rattle.std.proofs.Common.{◌≡◌, ℕ, zero, suc, ◌+◌, ◌≤◌, Bool, true, false, cond, List, [], ◌∷◌, ◌++◌, length, map, Some, None, refl, sym, ap, subst, ◌∙◌, arith}
use Rattle.std.specs.Prelude.{not, IsTrue, slice_get, count_by}
use Rattle.std.specs.List.{AllByRecursion}
use Rattle.std.proofs.lemmas.List.Sums.{count_by-le-length, sum_by-cons}
use Rattle.vpg_rules.specs.Constraint.{Constraint, feature, negation, implication, IsMet, implies}
use Rattle.vpg_tree.specs.Tree.{Group, Kind, Mandatory, Optional, Alternative, Or, Cardinality, members_from, has, MeetsGroup, IsConfiguration}
use Rattle.vpg_tree.specs.Lines.{mandatory, optional, group_lines, lines_from, constraint_line, Has, MeetsLine}
use Rattle.vpg_tree.specs.Laws.{MeetsLines, ConfigurationsMeetTheLines}
use Rattle.vpg_tree.proofs.Trees.{all_append}

all_front : {X : Type 0} (P : X → Type 0) (xs ys : List X) → AllByRecursion P (xs ++ ys) → AllByRecursion P xs
all_front P [] ys h = tt
all_front P (x ∷ xs) ys h = (h.0, all_front P xs ys h.1)

all_back : {X : Type 0} (P : X → Type 0) (xs ys : List X) → AllByRecursion P (xs ++ ys) → AllByRecursion P ys
all_back P [] ys h = h
all_back P (x ∷ xs) ys h = all_back P xs ys h.1

all_mapped : {X Y : Type 0} (P : Y → Type 0) (Q : X → Type 0) (f : X → Y) → ((x : X) → Q x → P (f x)) → (xs : List X) → AllByRecursion Q xs → AllByRecursion P (map f xs)
all_mapped P Q f to [] h = tt
all_mapped P Q f to (x ∷ xs) h = (to x h.0, all_mapped P Q f to xs h.1)

all_unmapped : {X Y : Type 0} (P : Y → Type 0) (Q : X → Type 0) (f : X → Y) → ((x : X) → P (f x) → Q x) → (xs : List X) → AllByRecursion P (map f xs) → AllByRecursion Q xs
all_unmapped P Q f from [] h = tt
all_unmapped P Q f from (x ∷ xs) h = (from x h.0, all_unmapped P Q f from xs h.1)

module _ (set : List Bool) where
  counted_cons : (f : ℕ) (fs : List ℕ) → count_by (has set) (f ∷ fs) ≡ cond (has set f) 1 0 + count_by (has set) fs
  counted_cons f fs = sum_by-cons (λ (x : ℕ). cond (has set x) 1 0) f fs

  counted_at : (f : ℕ) (fs : List ℕ) (b : Bool) → has set f ≡ b → count_by (has set) fs ≤ length fs → count_by (has set) (f ∷ fs) ≡ length (f ∷ fs) → Has set f × (count_by (has set) fs ≡ length fs)
  counted_at f fs true is few e =
      (is, let k : ◌≡◌ {A = ℕ} (cond true 1 0 + count_by (has set) fs) (length (f ∷ fs)) = ap (λ (x : Bool). cond x 1 0 + count_by (has set) fs) (sym is) ∙ sym (counted_cons f fs) ∙ e in omega (arith, k))
  counted_at f fs false is few e =
      absurd (let k : ◌≡◌ {A = ℕ} (cond false 1 0 + count_by (has set) fs) (length (f ∷ fs)) = ap (λ (x : Bool). cond x 1 0 + count_by (has set) fs) (sym is) ∙ sym (counted_cons f fs) ∙ e in omega (arith, k, few))

  -- all are in if so many are in
  counted_all : (fs : List ℕ) → count_by (has set) fs ≡ length fs → AllByRecursion (Has set) fs
  counted_all [] e = tt
  counted_all (f ∷ fs) e =
      let both = counted_at f fs (has set f) refl (count_by-le-length (has set) fs) e in (both.0, counted_all fs both.1)

  one_if : (b : Bool) → IsTrue b → ◌≡◌ {A = ℕ} (cond b 1 0) 1
  one_if true h = refl
  one_if false h = absurd (cc)

  all_counted : (fs : List ℕ) → AllByRecursion (Has set) fs → count_by (has set) fs ≡ length fs
  all_counted [] h = refl
  all_counted (f ∷ fs) h = omega (arith, one_if (has set f) h.0, all_counted fs h.1, counted_cons f fs)

  -- the children of a mandatory group, line by line
  to_mandatory : (p : ℕ) (fs : List ℕ) → AllByRecursion (λ f. Has set f → Has set p) fs → (Has set p → AllByRecursion (Has set) fs) → AllByRecursion (MeetsLine set) (map (mandatory p) fs)
  to_mandatory p [] h k = tt
  to_mandatory p (f ∷ fs) h k = ((h.0, λ q. (k q).0), to_mandatory p fs h.1 (λ q. (k q).1))

  from_mandatory : (p : ℕ) (fs : List ℕ) → AllByRecursion (MeetsLine set) (map (mandatory p) fs) → AllByRecursion (λ f. Has set f → Has set p) fs × (Has set p → AllByRecursion (Has set) fs)
  from_mandatory p [] h = (tt, λ q. tt)
  from_mandatory p (f ∷ fs) h =
      let later = from_mandatory p fs h.1 in ((h.0.0, later.0), λ q. (h.0.1 q, later.1 q))

  group_to_lines : (kind : Kind) (p : ℕ) (fs : List ℕ) → MeetsGroup set (record { parent = p; kind = kind }) fs → AllByRecursion (MeetsLine set) (group_lines kind p fs)
  group_to_lines Mandatory p fs m = to_mandatory p fs m.parents (λ q. counted_all fs (m.number q))
  group_to_lines Optional p fs m = all_mapped (MeetsLine set) (λ f. Has set f → Has set p) (optional p) (λ f h. h) fs m.parents
  group_to_lines Alternative p fs m = (record { parents = m.parents; number = m.number }, tt)
  group_to_lines Or p fs m = (record { parents = m.parents; number = m.number }, tt)
  group_to_lines (Cardinality low None) p fs m =
      (record { parents = m.parents; number = λ q. ((m.number q).0, count_by-le-length (has set) fs) }, tt)
  group_to_lines (Cardinality low (Some high)) p fs m = (
    record {
      parents = m.parents;
      number = λ q. ((m.number q).0, let k = (m.number q).1 in omega (arith, k, count_by-le-length (has set) fs));
    },
    tt,
  )

  lines_to_group : (kind : Kind) (p : ℕ) (fs : List ℕ) → AllByRecursion (MeetsLine set) (group_lines kind p fs) → MeetsGroup set (record { parent = p; kind = kind }) fs
  lines_to_group Mandatory p fs h =
      let both = from_mandatory p fs h in record { parents = both.0; number = λ q. all_counted fs (both.1 q) }
  lines_to_group Optional p fs h =
      record { parents = all_unmapped (MeetsLine set) (λ f. Has set f → Has set p) (optional p) (λ f k. k) fs h; number = λ q. tt }
  lines_to_group Alternative p fs h = record { parents = h.0.parents; number = h.0.number }
  lines_to_group Or p fs h = record { parents = h.0.parents; number = h.0.number }
  lines_to_group (Cardinality low None) p fs h = record { parents = h.0.parents; number = λ q. ((h.0.number q).0, tt) }
  lines_to_group (Cardinality low (Some high)) p fs h =
      record { parents = h.0.parents; number = λ q. ((h.0.number q).0, let k = (h.0.number q).1 in omega (arith, k)) }

  groups_to_lines : (first : ℕ) (gs : List Group) (places : List ℕ) → ((k : ℕ) (g : Group) → slice_get gs k ≡ Some g → MeetsGroup set g (members_from 1 places (first + k))) → AllByRecursion (MeetsLine set) (lines_from first gs places)
  groups_to_lines first [] places h = tt
  groups_to_lines first (g ∷ gs) places h =
      let here : first + 0 ≡ first = omega arith in
      all_append (MeetsLine set) (group_lines g.kind g.parent (members_from 1 places first)) (lines_from (suc first) gs places)
      (group_to_lines g.kind g.parent (members_from 1 places first) (subst (λ (n : ℕ). MeetsGroup set g (members_from 1 places n)) here (h 0 g refl)))
      (groups_to_lines (suc first) gs places (λ k x is. let there : first + suc k ≡ suc first + k = omega arith in subst (λ (n : ℕ). MeetsGroup set x (members_from 1 places n)) there (h (suc k) x is)))

  lines_to_groups : (first : ℕ) (gs : List Group) (places : List ℕ) → AllByRecursion (MeetsLine set) (lines_from first gs places) → (k : ℕ) (g : Group) → slice_get gs k ≡ Some g → MeetsGroup set g (members_from 1 places (first + k))
  lines_to_groups first [] places h k g is = absurd (cc)
  lines_to_groups first (x ∷ gs) places h zero g is =
      let same : x ≡ g = cc in
      let here : first ≡ first + 0 = omega arith in
      subst (λ (n : ℕ). MeetsGroup set g (members_from 1 places n)) here
      (subst (λ (y : Group). MeetsGroup set y (members_from 1 places first)) same
      (lines_to_group x.kind x.parent (members_from 1 places first) (all_front (MeetsLine set) (group_lines x.kind x.parent (members_from 1 places first)) (lines_from (suc first) gs places) h)))
  lines_to_groups first (x ∷ gs) places h (suc k) g is =
      let there : suc first + k ≡ first + suc k = omega arith in
      subst (λ (n : ℕ). MeetsGroup set g (members_from 1 places n)) there
      (lines_to_groups (suc first) gs places (all_back (MeetsLine set) (group_lines x.kind x.parent (members_from 1 places first)) (lines_from (suc first) gs places) h) k g is)

  to_implies : (a b : Bool) → IsTrue (implies a b) → IsTrue a → IsTrue b
  to_implies true b h k = go b h
    where
      go : (b : Bool) → IsTrue (implies true b) → IsTrue b
      go true h = refl
      go false h = absurd (cc)
  to_implies false b h k = absurd (cc)

  from_implies : (a b : Bool) → (IsTrue a → IsTrue b) → IsTrue (implies a b)
  from_implies true true h = refl
  from_implies true false h = h refl
  from_implies false true h = refl
  from_implies false false h = refl

  to_excluded : (x y : Bool) → IsTrue (implies x (not y)) → IsTrue x → IsTrue y → ⊥
  to_excluded true true h i j = cc
  to_excluded true false h i j = cc
  to_excluded false y h i j = cc

  from_excluded : (x y : Bool) → (IsTrue x → IsTrue y → ⊥) → IsTrue (implies x (not y))
  from_excluded true true h = absurd (h refl refl)
  from_excluded true false h = refl
  from_excluded false true h = refl
  from_excluded false false h = refl

  constraint_to_line : (c : Constraint ℕ) → IsMet c (has set) → MeetsLine set (constraint_line c)
  constraint_to_line (implication (feature a) (feature b)) h = to_implies (has set a) (has set b) h
  constraint_to_line (implication (feature a) (negation (feature b))) h = to_excluded (has set a) (has set b) h
  constraint_to_line c h = h

  line_to_constraint : (c : Constraint ℕ) → MeetsLine set (constraint_line c) → IsMet c (has set)
  line_to_constraint (implication (feature a) (feature b)) h = from_implies (has set a) (has set b) h
  line_to_constraint (implication (feature a) (negation (feature b))) h = from_excluded (has set a) (has set b) h
  line_to_constraint c h = h

pub configurations_meet_the_lines : ConfigurationsMeetTheLines
configurations_meet_the_lines tree set = (to, from)
  where
    to : IsConfiguration tree set → MeetsLines tree set
    to is = record {
      length_is = is.length_is;
      root = is.root;
      each = all_append (MeetsLine set) (lines_from 0 tree.groups tree.places) (map constraint_line tree.constraints)
          (groups_to_lines set 0 tree.groups tree.places (λ k g at. let here : k ≡ 0 + k = omega arith in subst (λ (n : ℕ). MeetsGroup set g (members_from 1 tree.places n)) here (is.groups k g at)))
          (all_mapped (MeetsLine set) (λ c. IsMet c (has set)) constraint_line (constraint_to_line set) tree.constraints is.constraints);
    }

    from : MeetsLines tree set → IsConfiguration tree set
    from m = record {
      length_is = m.length_is;
      root = m.root;
      groups = λ k g at. let here : 0 + k ≡ k = omega arith in subst (λ (n : ℕ). MeetsGroup set g (members_from 1 tree.places n)) here (lines_to_groups set 0 tree.groups tree.places (all_front (MeetsLine set) (lines_from 0 tree.groups tree.places) (map constraint_line tree.constraints) m.each) k g at);
      constraints = all_unmapped (MeetsLine set) (λ c. IsMet c (has set)) constraint_line (line_to_constraint set) tree.constraints (all_back (MeetsLine set) (lines_from 0 tree.groups tree.places) (map constraint_line tree.constraints) m.each);
    }
