-- The tree of a model is in order: its groups stand after those of their parents, and have members; its rules join two
-- parts or more, with few open signs.
use Rattle.std.proofs.Common.{◌≡◌, ℕ, zero, suc, ◌+◌, ◌-◌, ◌*◌, ◌<◌, ◌≤◌, Bool, true, false, not, ◌&&◌, ◌||◌, ◌==◌, cond, List, [], ◌∷◌, ◌++◌, length, map, Option, Some, None, Result, Ok, Err, ◌⊎◌, inl, inr, refl, sym, ap, ap₂, ◌∙◌, subst, arith, bytes_eq, nat_le, eqb-true}
use Rattle.std.specs.Prelude.{⊤, slice_get, slice_index_or, IsSomeAnd, codes}
use Rattle.std.specs.List.{AllByRecursion, list_any}
use Rattle.std.proofs.lemmas.Bool.{leb-true}
use Rattle.std.proofs.lemmas.Bool.Decides.{nat_tests}
use Rattle.std.proofs.lemmas.Option.{slice_get-get_or}
use Rattle.vpg_rules.specs.Constraint.{Constraint, Parts, feature, negation, all, any, implication, equivalence}
use Rattle.vpg_rules.specs.View.{parts_of}
use Rattle.vpg_tree.specs.declared.group.Group.{Group}
use Rattle.vpg_tree.specs.declared.group.Kind.{Kind}
use Rattle.vpg_tree.specs.declared.group.Kind.TheVariants as groups
use Rattle.vpg_tree.specs.Tree.{Tree, members_from, ArePlaced, IsTree}
use Rattle.vpg_tree.specs.Laws.{HasTwo, JoinsTwo, EachJoinsTwo, open_signs}
use Rattle.vpg_tree.specs.InOrder.{HasMembers, ComesBefore, AreInOrder, HasShortBounds, IsInOrder}
use Rattle.vpg_xml.specs.Elements.{Element, Document}
use Rattle.vpg_featureide.specs.Roles.{Role, Outside, And}
use Rattle.vpg_featureide.specs.declared.role.Role.TheVariants as roles
use Rattle.vpg_featureide.specs.Model.{Seen, Member, nothing, seen_with}
use Rattle.vpg_featureide.specs.Formulas.{◌>>=◌, is_operand, is_rule, operands_with, known, variable, feature_in, after_blanks, alone, several, pair, joined, joined_if, formula_with, shallow, rule_at, rules_with, FeatureModel, model_with, with_constraints, model_of}
use Rattle.vpg_featureide.specs.Trees.{has_child, kind_of, groups_of, groups_from, is_and, place_of, tree_of, IsTreeOf}
use Rattle.vpg_featureide.specs.declared.fault.ModelFault.{ModelFault}
use Rattle.vpg_featureide.specs.declared.fault.ModelFault.TheVariants as faults
use Rattle.vpg_featureide.specs.Laws.{TreesAreInOrder}

-- ---- members

either_some : (f : ℕ) (xs : List ℕ) (b : Bool) → 0 < length xs → 0 < length (cond b (f ∷ xs) xs)
either_some f xs true l = omega arith
either_some f xs false l = l

itself : (k : ℕ) → (k == k) ≡ true
itself k = grind (arith, nat_tests)

-- the group of some feature has a member
has_one : (first : ℕ) (places : List ℕ) (j p : ℕ) → slice_get places j ≡ Some p → 0 < length (members_from first places p)
has_one first [] j p e = absurd (cc)
has_one first (q ∷ places) zero p e =
    let same : q ≡ p = cc in
    subst (λ (x : ℕ). 0 < length (cond (q == x) (first ∷ members_from (suc first) places x) (members_from (suc first) places x))) same
    (subst (λ (b : Bool). 0 < length (cond b (first ∷ members_from (suc first) places q) (members_from (suc first) places q))) (sym (itself q)) (omega arith))
has_one first (q ∷ places) (suc j) p e = either_some first (members_from (suc first) places p) (q == p) (has_one (suc first) places j p e)

-- ---- groups by their features

module _ (members : List Member) where
  -- the number of a group is twice that of its parent, or one more
  group_at : (f : ℕ) (rs : List Role) (k : ℕ) (g : Group) → slice_get (groups_from members f rs) k ≡ Some g → (2 * f + k ≤ 2 * g.parent + 1)
  group_at f [] k g e = absurd (cc)
  group_at f (r ∷ rs) zero g e = let is : f ≡ g.parent = ap (λ (x : Group). x.parent) (let same : record { parent = f; kind = kind_of r (has_child members f) } ≡ g = cc in same) in omega (arith, is)
  group_at f (r ∷ rs) (suc zero) g e = let is : f ≡ g.parent = ap (λ (x : Group). x.parent) (let same : record { parent = f; kind = groups.Optional } ≡ g = cc in same) in omega (arith, is)
  group_at f (r ∷ rs) (suc (suc k)) g e = let h = group_at (suc f) rs k g e in omega (arith, h)

  place_below : (rs : List Role) (first : ℕ) (places : List ℕ) (j p : ℕ) → ArePlaced (groups_from members 0 rs) first places → slice_get places j ≡ Some p → p < 2 * (first + j)
  place_below rs first [] j p h e = absurd (cc)
  place_below rs first (q ∷ places) zero p h e =
      let same : q ≡ p = cc in
      let l = go (slice_get (groups_from members 0 rs) q) refl h.0 in
      omega (arith, l, same)
    where
      go : (o : Option Group) → slice_get (groups_from members 0 rs) q ≡ o → IsSomeAnd o (λ group. group.parent < first) → q < 2 * first
      go None e h = absurd h
      go (Some g) e h = let k = group_at 0 rs q g e in omega (arith, k, h)
  place_below rs first (q ∷ places) (suc j) p h e = let l = place_below rs (suc first) places j p h.1 e in omega (arith, l)

-- ---- a model

module _ (m : FeatureModel) (is : IsTree (tree_of m)) where
  abbrev places : List ℕ
  places = map (place_of m.kinds) m.members

  -- each feature comes before its groups
  comes_before : (f k : ℕ) → f < length m.names → 2 * f ≤ k → ComesBefore places k f
  comes_before zero k lt le = tt
  comes_before (suc j) k lt le =
      let within : j < length places = (let e = is.each_placed in omega (arith, e, lt)) in
      let at = slice_get-get_or places j 0 within in
      let below = place_below m.members m.kinds 1 places j (slice_index_or places j 0) is.members at in
      subst (λ (o : Option ℕ). IsSomeAnd o (λ place. place < k)) (sym at) (omega (arith, below, le))

  -- a feature with a child has it in its first group, unless it is an `and`
  child_at : (ms : List Member) (f : ℕ) → has_child ms f ≡ true → is_and (slice_index_or m.kinds f Outside) ≡ false → (j : ℕ) × (slice_get (map (place_of m.kinds) ms) j ≡ Some (2 * f))
  child_at [] f e none = absurd (cc)
  child_at (x ∷ ms) f e none = go (x.parent == f) refl e (λ h. child_at ms f h none)
    where
      go : (b : Bool) → (x.parent == f) ≡ b → (b || has_child ms f) ≡ true → (has_child ms f ≡ true → (j : ℕ) × (slice_get (map (place_of m.kinds) ms) j ≡ Some (2 * f)))
          → (j : ℕ) × (slice_get (map (place_of m.kinds) (x ∷ ms)) j ≡ Some (2 * f))
      go true e h later =
          let same : x.parent ≡ f = eqb-true x.parent f e in
          let none_here : is_and (slice_index_or m.kinds x.parent Outside) ≡ false = ap (λ (n : ℕ). is_and (slice_index_or m.kinds n Outside)) same ∙ none in
          let place : place_of m.kinds x ≡ 2 * x.parent = ap (λ (b : Bool). cond (b && not x.is_mandatory) (2 * x.parent + 1) (2 * x.parent)) none_here in
          (0, ap (λ (n : ℕ). Some n) (place ∙ ap (λ (n : ℕ). 2 * n) same))
      go false e h later = let r = later h in (suc r.0, r.1)

  first_group : (f : ℕ) (role : Role) (b : Bool) → slice_index_or m.kinds f Outside ≡ role → has_child m.members f ≡ b → HasMembers (kind_of role b) (members_from 1 places (2 * f))
  first_group f roles.Or true e h = let c = child_at m.members f h (ap is_and e) in has_one 1 places c.0 (2 * f) c.1
  first_group f roles.Alternative true e h = let c = child_at m.members f h (ap is_and e) in has_one 1 places c.0 (2 * f) c.1
  first_group f roles.Or false e h = tt
  first_group f roles.Alternative false e h = tt
  first_group f roles.Outside b e h = tt
  first_group f roles.Whole b e h = tt
  first_group f roles.Structure b e h = tt
  first_group f roles.And b e h = tt
  first_group f roles.Leaf b e h = tt
  first_group f roles.Constraints b e h = tt
  first_group f roles.Rule b e h = tt
  first_group f roles.Formula b e h = tt
  first_group f roles.Over b e h = tt

  groups_in_order : (f n : ℕ) (rs : List Role) → n ≡ 2 * f → ((i : ℕ) (r : Role) → slice_get rs i ≡ Some r → slice_index_or m.kinds (f + i) Outside ≡ r) → AllByRecursion (λ g. g.parent < length m.names) (groups_from m.members f rs)
      → AreInOrder n (groups_from m.members f rs) places
  groups_in_order f n [] e at below = tt
  groups_in_order f n (r ∷ rs) e at below =
      let here : f + 0 ≡ f = omega arith in
      let role : slice_index_or m.kinds f Outside ≡ r = subst (λ (k : ℕ). slice_index_or m.kinds k Outside ≡ r) here (at 0 r refl) in
      let filled = subst (λ (k : ℕ). HasMembers (kind_of r (has_child m.members f)) (members_from 1 places k)) (sym e) (first_group f r (has_child m.members f) role refl) in (
        comes_before f n below.0 (omega (arith, e)),
        filled,
        (
          comes_before f (suc n) below.0 (omega (arith, e)),
          tt,
          groups_in_order (suc f) (suc (suc n)) rs (omega (arith, e)) (λ i x h. let next : f + suc i ≡ suc f + i = omega arith in subst (λ (k : ℕ). slice_index_or m.kinds k Outside ≡ x) next (at (suc i) x h)) below.1.1,
        ),
      )

  get_is : {X : Type 0} (xs : List X) (i : ℕ) (x d : X) → slice_get xs i ≡ Some x → slice_index_or xs i d ≡ x
  get_is [] i x d e = absurd (cc)
  get_is (y ∷ xs) zero x d e = cc
  get_is (y ∷ xs) (suc i) x d e = get_is xs i x d e

  in_order : AreInOrder 0 (groups_from m.members 0 m.kinds) places
  in_order =
      groups_in_order 0 0 m.kinds (omega arith) (λ i r e. let zero_more : i ≡ 0 + i = omega arith in subst (λ (k : ℕ). slice_index_or m.kinds k Outside ≡ r) zero_more (get_is m.kinds i r Outside e)) is.parents

-- ---- bounds

short_kind : (role : Role) (b : Bool) → HasShortBounds (kind_of role b)
short_kind roles.Or true = tt
short_kind roles.Or false = tt
short_kind roles.Alternative true = tt
short_kind roles.Alternative false = tt
short_kind roles.Outside b = tt
short_kind roles.Whole b = tt
short_kind roles.Structure b = tt
short_kind roles.And b = tt
short_kind roles.Leaf b = tt
short_kind roles.Constraints b = tt
short_kind roles.Rule b = tt
short_kind roles.Formula b = tt
short_kind roles.Over b = tt

short_groups : (ms : List Member) (f : ℕ) (rs : List Role) → AllByRecursion (λ g. HasShortBounds g.kind) (groups_from ms f rs)
short_groups ms f [] = tt
short_groups ms f (r ∷ rs) = (short_kind r (has_child ms f), (tt, short_groups ms (suc f) rs))

-- ---- rules

added : (cs : List (Constraint ℕ)) (c : Constraint ℕ) → AllByRecursion JoinsTwo cs → JoinsTwo c → AllByRecursion JoinsTwo (cs ++ c ∷ [])
added [] c h k = (k, tt)
added (x ∷ cs) c h k = (h.0, added cs c h.1 k)

parts_join : (cs : List (Constraint ℕ)) → AllByRecursion JoinsTwo cs → EachJoinsTwo (parts_of cs)
parts_join [] h = tt
parts_join (c ∷ cs) h = (h.0, parts_join cs h.1)

abbrev Joins : Result (Constraint ℕ) ModelFault → Type 0
Joins r = (c : Constraint ℕ) → r ≡ Ok c → JoinsTwo c

abbrev AllJoin : Result (List (Constraint ℕ)) ModelFault → Type 0
AllJoin r = (cs : List (Constraint ℕ)) → r ≡ Ok cs → AllByRecursion JoinsTwo cs

operands_join : (read : ℕ → Result (Constraint ℕ) ModelFault) → ((j : ℕ) → Joins (read j)) → (rs : List Role) (i j : ℕ) (before : List (Constraint ℕ)) (d : Document) → AllByRecursion JoinsTwo before → AllJoin (operands_with read rs i j before d)
operands_join read each rs i j before [] h cs e = let same : before ≡ cs = cc in subst (AllByRecursion JoinsTwo) same h
operands_join read each rs i j before (x ∷ rest) h cs e =
    go (is_operand rs i j x) (read j) refl (λ c k. operands_join read each rs i (suc j) (before ++ c ∷ []) rest k) (operands_join read each rs i (suc j) before rest h) e
  where
    go : (b : Bool) (r : Result (Constraint ℕ) ModelFault) → read j ≡ r → ((c : Constraint ℕ) → AllByRecursion JoinsTwo (before ++ c ∷ []) → AllJoin (operands_with read rs i (suc j) (before ++ c ∷ []) rest)) → AllJoin (operands_with read rs i (suc j) before rest)
        → cond b (r >>= λ c. operands_with read rs i (suc j) (before ++ c ∷ []) rest) (operands_with read rs i (suc j) before rest) ≡ Ok cs → AllByRecursion JoinsTwo cs
    go true (Err f) is later other e = absurd (cc)
    go true (Ok c) is later other e = later c (added before c h (each j c is)) cs e
    go false r is later other e = other cs e

known_joins : (at : ℕ) (o : Option ℕ) → Joins (known at o)
known_joins at None c e = absurd (cc)
known_joins at (Some f) c e = let same : feature f ≡ c = cc in subst JoinsTwo same tt

variable_joins : (names : List (List ℕ)) (x : Element) (cs : List (Constraint ℕ)) → Joins (variable names x cs)
variable_joins names x [] c e = known_joins x.at (feature_in names (after_blanks x.text)) c e
variable_joins names x (d ∷ cs) c e = absurd (cc)

alone_joins : (at : ℕ) (make : Constraint ℕ → Constraint ℕ) → ((c : Constraint ℕ) → JoinsTwo c → JoinsTwo (make c)) → (cs : List (Constraint ℕ)) → AllByRecursion JoinsTwo cs → Joins (alone at make cs)
alone_joins at make to [] h c e = absurd (cc)
alone_joins at make to (x ∷ []) h c e = let same : make x ≡ c = cc in subst JoinsTwo same (to x h.0)
alone_joins at make to (x ∷ y ∷ cs) h c e = absurd (cc)

several_joins : (at : ℕ) (make : Parts ℕ → Constraint ℕ) → ((cs : Parts ℕ) → HasTwo cs → EachJoinsTwo cs → JoinsTwo (make cs)) → (cs : List (Constraint ℕ)) → AllByRecursion JoinsTwo cs → Joins (several at make cs)
several_joins at make to [] h c e = absurd (cc)
several_joins at make to (x ∷ []) h c e = let same : x ≡ c = cc in subst JoinsTwo same h.0
several_joins at make to (x ∷ y ∷ cs) h c e =
    let same : make (parts_of (x ∷ y ∷ cs)) ≡ c = cc in subst JoinsTwo same (to (parts_of (x ∷ y ∷ cs)) tt (parts_join (x ∷ y ∷ cs) h))

pair_joins : (at : ℕ) (make : Constraint ℕ → Constraint ℕ → Constraint ℕ) → ((c d : Constraint ℕ) → JoinsTwo c → JoinsTwo d → JoinsTwo (make c d)) → (cs : List (Constraint ℕ)) → AllByRecursion JoinsTwo cs → Joins (pair at make cs)
pair_joins at make to [] h c e = absurd (cc)
pair_joins at make to (x ∷ []) h c e = absurd (cc)
pair_joins at make to (x ∷ y ∷ []) h c e = let same : make x y ≡ c = cc in subst JoinsTwo same (to x y h.0 h.1.0)
pair_joins at make to (x ∷ y ∷ z ∷ cs) h c e = absurd (cc)

either_joins : (b : Bool) (r s : Result (Constraint ℕ) ModelFault) → Joins r → Joins s → Joins (cond b r s)
either_joins true r s h k = h
either_joins false r s h k = k

joined_joins : (names : List (List ℕ)) (x : Element) (cs : List (Constraint ℕ)) → AllByRecursion JoinsTwo cs → Joins (joined names x cs)
joined_joins names x cs h =
    either_joins (bytes_eq x.tag.name (codes "var")) (variable names x cs) _ (variable_joins names x cs)
    (either_joins (bytes_eq x.tag.name (codes "not")) (alone x.at negation cs) _ (alone_joins x.at negation (λ c k. k) cs h)
    (either_joins (bytes_eq x.tag.name (codes "conj")) (several x.at all cs) _ (several_joins x.at all (λ ps k l. (k, l)) cs h)
    (either_joins (bytes_eq x.tag.name (codes "disj")) (several x.at any cs) _ (several_joins x.at any (λ ps k l. (k, l)) cs h)
    (either_joins (bytes_eq x.tag.name (codes "imp")) (pair x.at implication cs) (pair x.at equivalence cs) (pair_joins x.at implication (λ c d k l. (k, l)) cs h)
    (pair_joins x.at equivalence (λ c d k l. (k, l)) cs h)))))

joined_if_joins : (names : List (List ℕ)) (o : Option Element) (cs : List (Constraint ℕ)) → AllByRecursion JoinsTwo cs → Joins (joined_if names o cs)
joined_if_joins names None cs h c e = absurd (cc)
joined_if_joins names (Some x) cs h c e = joined_joins names x cs h c e

formula_joins : (n : ℕ) (names : List (List ℕ)) (rs : List Role) (d : Document) (i : ℕ) → Joins (formula_with n names rs d i)
formula_joins zero names rs d i c e = absurd (cc)
formula_joins (suc n) names rs d i c e =
    go (operands_with (formula_with n names rs d) rs i 0 [] d) (operands_join (formula_with n names rs d) (formula_joins n names rs d) rs i 0 [] d tt) e
  where
    go : (r : Result (List (Constraint ℕ)) ModelFault) → AllJoin r → (r >>= λ cs. joined_if names (slice_get d i) cs) ≡ Ok c → JoinsTwo c
    go (Err f) h e = absurd (cc)
    go (Ok cs) h e = joined_if_joins names (slice_get d i) cs (h cs refl) c e

-- a rule of two parts or more in each `and` and `or`, with few open signs
abbrev IsReadable : Constraint ℕ → Type 0
IsReadable c = JoinsTwo c × (open_signs c ≤ 64)

abbrev AllReadable : Result (List (Constraint ℕ)) ModelFault → Type 0
AllReadable r = (cs : List (Constraint ℕ)) → r ≡ Ok cs → AllByRecursion IsReadable cs

shallow_reads : (at : ℕ) (c e : Constraint ℕ) → JoinsTwo c → shallow at c ≡ Ok e → IsReadable e
shallow_reads at c e two h = go (nat_le (open_signs c) 64) refl h
  where
    go : (b : Bool) → nat_le (open_signs c) 64 ≡ b → (let r : Result (Constraint ℕ) ModelFault = cond b (Ok c) (Err (faults.TooDeep at)) in r ≡ Ok e) → IsReadable e
    go true few is = let same : c ≡ e = cc in subst IsReadable same (two, leb-true (open_signs c) 64 few)
    go false few is = absurd (cc)

rule_reads : (names : List (List ℕ)) (rs : List Role) (d : Document) (i : ℕ) (x : Element) (c : Constraint ℕ) → rule_at names rs d i x ≡ Ok c → IsReadable c
rule_reads names rs d i x c e =
    go (operands_with (formula_with 64 names rs d) rs i 0 [] d) (operands_join (formula_with 64 names rs d) (formula_joins 64 names rs d) rs i 0 [] d tt) e
  where
    alone_reads : (r : Result (Constraint ℕ) ModelFault) → Joins r → (r >>= shallow x.at) ≡ Ok c → IsReadable c
    alone_reads (Err f) h e = absurd (cc)
    alone_reads (Ok y) h e = shallow_reads x.at y c (h y refl) e

    go : (r : Result (List (Constraint ℕ)) ModelFault) → AllJoin r → (r >>= λ cs. (alone x.at (λ y. y) cs >>= shallow x.at)) ≡ Ok c → IsReadable c
    go (Err f) h e = absurd (cc)
    go (Ok cs) h e = alone_reads (alone x.at (λ y. y) cs) (alone_joins x.at (λ y. y) (λ y k. k) cs (h cs refl)) e

added_readable : (cs : List (Constraint ℕ)) (c : Constraint ℕ) → AllByRecursion IsReadable cs → IsReadable c → AllByRecursion IsReadable (cs ++ c ∷ [])
added_readable [] c h k = (k, tt)
added_readable (x ∷ cs) c h k = (h.0, added_readable cs c h.1 k)

rules_read : (names : List (List ℕ)) (rs : List Role) (d : Document) (i : ℕ) (before : List (Constraint ℕ)) (rest : Document) → AllByRecursion IsReadable before → AllReadable (rules_with names rs d i before rest)
rules_read names rs d i before [] h cs e = let same : before ≡ cs = cc in subst (AllByRecursion IsReadable) same h
rules_read names rs d i before (x ∷ rest) h cs e =
    go (is_rule (slice_index_or rs i Outside)) (rule_at names rs d i x) (rule_reads names rs d i x) (λ c k. rules_read names rs d (suc i) (before ++ c ∷ []) rest k) (rules_read names rs d (suc i) before rest h) e
  where
    go : (b : Bool) (r : Result (Constraint ℕ) ModelFault) → ((c : Constraint ℕ) → r ≡ Ok c → IsReadable c) → ((c : Constraint ℕ) → AllByRecursion IsReadable (before ++ c ∷ []) → AllReadable (rules_with names rs d (suc i) (before ++ c ∷ []) rest)) → AllReadable (rules_with names rs d (suc i) before rest)
        → cond b (r >>= λ c. rules_with names rs d (suc i) (before ++ c ∷ []) rest) (rules_with names rs d (suc i) before rest) ≡ Ok cs → AllByRecursion IsReadable cs
    go true (Err f) k later other e = absurd (cc)
    go true (Ok c) k later other e = later c (added_readable before c h (k c refl)) cs e
    go false r k later other e = other cs e

with_reads : (d : Document) (s : Seen) (ns : List (List ℕ)) (m : FeatureModel) → with_constraints d s ns ≡ Ok m → AllByRecursion IsReadable m.constraints
with_reads d s [] m e = absurd (cc)
with_reads d s (n ∷ ns) m e = go (rules_with s.names s.roles d 0 [] d) (rules_read s.names s.roles d 0 [] d tt) e
  where
    go : (r : Result (List (Constraint ℕ)) ModelFault) → AllReadable r → (r >>= λ cs. Ok (model_with s cs)) ≡ Ok m → AllByRecursion IsReadable m.constraints
    go (Err f) h e = absurd (cc)
    go (Ok cs) h e = let same : model_with s cs ≡ m = cc in subst (λ (x : FeatureModel). AllByRecursion IsReadable x.constraints) same (h cs refl)

model_reads : (d : Document) (m : FeatureModel) → model_of d ≡ Ok m → AllByRecursion IsReadable m.constraints
model_reads d m e = go (seen_with nothing d) e
  where
    go : (r : Result Seen ModelFault) → (r >>= λ s. with_constraints d s s.names) ≡ Ok m → AllByRecursion IsReadable m.constraints
    go (Err f) e = absurd (cc)
    go (Ok s) e = with_reads d s s.names m e

readable_join : (cs : List (Constraint ℕ)) → AllByRecursion IsReadable cs → AllByRecursion JoinsTwo cs
readable_join [] h = tt
readable_join (c ∷ cs) h = (h.0.0, readable_join cs h.1)

readable_few : (cs : List (Constraint ℕ)) → AllByRecursion IsReadable cs → AllByRecursion (λ c. open_signs c ≤ 64) cs
readable_few [] h = tt
readable_few (c ∷ cs) h = (h.0.1, readable_few cs h.1)

pub trees_in_order : TreesAreInOrder
trees_in_order text tree h is =
    let readable = model_reads h.spelled.document h.model h.spelled.is in
    let ordered : IsInOrder (tree_of h.model) = record {
      is_tree = subst IsTree h.is is;
      groups = in_order h.model (subst IsTree h.is is);
      bounds = short_groups h.model.members 0 h.model.kinds;
      joins = readable_join h.model.constraints readable;
      few_signs = readable_few h.model.constraints readable;
    } in
    subst IsInOrder (sym h.is) ordered
