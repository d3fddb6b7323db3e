-- The writing of a rule reads back.
use Rattle.std.proofs.Common.{◌≡◌, ℕ, zero, suc, ◌+◌, ◌-◌, ◌<◌, ◌≤◌, Bool, true, false, List, [], ◌∷◌, ◌++◌, length, refl, sym, ap, ap₂, subst, arith, append_assoc}
use Rattle.std.specs.Prelude.{codes, nat_lt, slice_index_or, unwrap_or}
use Rattle.std.proofs.lemmas.Bool.{ltb-false}
use Rattle.std.proofs.lemmas.List.{append-nil}
use Rattle.std.proofs.lemmas.Option.{slice_get-get_or}
use Rattle.vpg_features.specs.Names.{IsFeatureName, AreNames}
use Rattle.vpg_features.proofs.Held.{held_is_name, index_of_held}
use Rattle.vpg_guards.specs.Grammar.{AreBlank, constant_text}
use Rattle.vpg_rules.specs.Constraint.{Constraint, Parts, always, never, feature, negation, all, any, implication, equivalence, no_parts, part, renamed, each_renamed, IsBelow, AreBelow}
use Rattle.vpg_rules.specs.Grammar.{NamedRule, constant_rule, constant, name, inverted, enclosed, added, Items, one, more, Series, plain, arrow, Disjunction, IsFactor, IsImplication, IsRule, index_or_end}
use Rattle.vpg_tree.specs.RuleText.{closeness, enclosed_if, rule_text, more_all_text, more_any_text}
use Rattle.vpg_tree.specs.Laws.{more_if, open_signs, most_open, JoinsTwo, EachJoinsTwo, ReadsAs}

-- ---- levels: 0 for rules, 1 without an outer `<=>`, 2 for disjunctions, 3 for conjunctions, 4 for factors

abbrev At : ℕ → ℕ → List ℕ → NamedRule → Type 0
At zero n text c = IsRule n text c
At (suc zero) n text c = IsImplication n text c
At (suc (suc zero)) n text c = Disjunction (IsFactor n) text c
At (suc (suc (suc zero))) n text c = Series (IsFactor n) (codes "&") all text c
At (suc (suc (suc (suc k)))) n text c = IsFactor n text c

one_of : (Item : List ℕ → NamedRule → Type 0) (mark : List ℕ) (make : Parts (List ℕ) → NamedRule) (text : List ℕ) (c : NamedRule) → Item text c → Series Item mark make text c
one_of Item mark make text c h = record { parts = part c no_parts; items = one h; stands = refl }

as_rule : (m : ℕ) (text : List ℕ) (c : NamedRule) → IsImplication (suc m) text c → IsRule (suc m) text c
unfolding IsRule IsImplication
as_rule m text c h = plain h

as_implication : (m : ℕ) (text : List ℕ) (c : NamedRule) → Disjunction (IsFactor (suc m)) text c → IsImplication (suc m) text c
unfolding IsFactor IsImplication
as_implication m text c h = plain h

step : (m : ℕ) (text : List ℕ) (c : NamedRule) (k : ℕ) → At (suc k) (suc m) text c → At k (suc m) text c
step m text c zero h = as_rule m text c h
step m text c (suc zero) h = as_implication m text c h
step m text c (suc (suc zero)) h = one_of (Series (IsFactor (suc m)) (codes "&") all) (codes "|") any text c h
step m text c (suc (suc (suc zero))) h = one_of (IsFactor (suc m)) (codes "&") all text c h
step m text c (suc (suc (suc (suc k)))) h = h

lower : (m : ℕ) (text : List ℕ) (c : NamedRule) (d k n : ℕ) → d + k ≡ n → At n (suc m) text c → At k (suc m) text c
lower m text c zero k n e h = let same : n ≡ k = omega (arith, e) in subst (λ (j : ℕ). At j (suc m) text c) same h
lower m text c (suc d) k n e h = step m text c k (lower m text c d (suc k) n (omega (arith, e)) h)

to_level : (m : ℕ) (text : List ℕ) (c : NamedRule) (k n : ℕ) → k ≤ n → At n (suc m) text c → At k (suc m) text c
to_level m text c k n le h = lower m text c (n - k) k n (omega (arith, le)) h

-- ---- factors

constant_factor : (m : ℕ) (w : List ℕ) (b : Bool) → AreBlank w → IsFactor (suc m) (w ++ constant_text b) (constant_rule b)
unfolding IsFactor
constant_factor m w b blank = constant w b blank

name_factor : (m : ℕ) (w word : List ℕ) → AreBlank w → IsFeatureName word → IsFactor (suc m) (w ++ word) (feature word)
unfolding IsFactor
name_factor m w word blank is = name w word blank is

not_factor : (m : ℕ) (w text : List ℕ) (c : NamedRule) → AreBlank w → IsFactor m text c → IsFactor (suc m) (w ++ 33 ∷ text) (negation c)
unfolding IsFactor
not_factor m w text c blank h = inverted w blank h

rule_factor : (m : ℕ) (w text : List ℕ) (c : NamedRule) → AreBlank w → IsRule m text c → IsFactor (suc m) (w ++ 40 ∷ (text ++ 41 ∷ [])) c
unfolding IsFactor
rule_factor m w text c blank h =
    let whole : IsFactor (suc m) (w ++ 40 ∷ (text ++ [] ++ 41 ∷ [])) c = enclosed w [] blank h refl in
    subst (λ (t : List ℕ). IsFactor (suc m) (w ++ 40 ∷ (t ++ 41 ∷ [])) c) (append-nil text) whole

-- ---- arrows

implication_of : (m : ℕ) (text later : List ℕ) (c d : NamedRule) → Disjunction (IsFactor (suc m)) text c → IsImplication m later d → IsImplication (suc m) (text ++ (32 ∷ []) ++ codes "=>" ++ later) (implication c d)
unfolding IsFactor IsImplication
implication_of m text later c d h k = arrow (32 ∷ []) h refl k

equivalence_of : (m : ℕ) (text later : List ℕ) (c d : NamedRule) → IsImplication (suc m) text c → IsRule m later d → IsRule (suc m) (text ++ (32 ∷ []) ++ codes "<=>" ++ later) (equivalence c d)
unfolding IsImplication IsRule
equivalence_of m text later c d h k = arrow (32 ∷ []) h refl k

-- ---- more items

-- an operator between blanks
around : (w front blank mark behind : List ℕ) → (w ++ front) ++ blank ++ mark ++ (blank ++ behind) ≡ w ++ (front ++ (blank ++ mark ++ blank) ++ behind)
around w front blank mark behind = simp append_assoc

after : (text blank mark item behind : List ℕ) → (text ++ blank ++ mark ++ (blank ++ item)) ++ behind ≡ text ++ ((blank ++ mark ++ blank) ++ item ++ behind)
after text blank mark item behind = simp append_assoc

abbrev put : Parts (List ℕ) → Parts (List ℕ) → Parts (List ℕ)
put no_parts ds = ds
put (part c cs) ds = part c (put cs ds)

put_added : (cs : Parts (List ℕ)) (d : NamedRule) (ds : Parts (List ℕ)) → put (added cs d) ds ≡ put cs (part d ds)
put_added no_parts d ds = refl
put_added (part c cs) d ds = ap (part c) (put_added cs d ds)

put_none : (cs : Parts (List ℕ)) → put cs no_parts ≡ cs
put_none no_parts = refl
put_none (part c cs) = ap (part c) (put_none cs)

module _ (names : List (List ℕ)) (are : AreNames names) where
  abbrev word_of : ℕ → List ℕ
  word_of f = slice_index_or names f []

  abbrev seen : Constraint ℕ → NamedRule
  seen c = renamed word_of c

  -- a text of the constraint, whatever blanks come first
  abbrev Reads : Constraint ℕ → Type 0
  Reads c = (m : ℕ) (w : List ℕ) → open_signs c ≤ m → AreBlank w → At (closeness c) (suc m) (w ++ rule_text names c) (seen c)

  word_is_name : (f : ℕ) → f < length names → IsFeatureName (word_of f)
  word_is_name f lt = held_is_name names f (word_of f) are.each (slice_get-get_or names f [] lt)

  -- as an item that binds so closely, in parentheses if it does not
  closer : (k : ℕ) (c : Constraint ℕ) → k ≤ 4 → Reads c → (m : ℕ) (w : List ℕ) → more_if (nat_lt (closeness c) k) (open_signs c) ≤ m → AreBlank w
      → At k (suc m) (w ++ enclosed_if (nat_lt (closeness c) k) (rule_text names c)) (seen c)
  closer k c le reads m w few blank = go (nat_lt (closeness c) k) refl few
    where
      enclosing : (n : ℕ) → suc n ≡ m → open_signs c ≤ n → At k (suc m) (w ++ 40 ∷ (rule_text names c ++ 41 ∷ [])) (seen c)
      enclosing n e less =
          let inner : IsRule (suc n) (rule_text names c) (seen c) = to_level n (rule_text names c) (seen c) 0 (closeness c) (omega arith) (reads n [] less refl) in
          let whole : IsFactor (suc (suc n)) (w ++ 40 ∷ (rule_text names c ++ 41 ∷ [])) (seen c) = rule_factor (suc n) w (rule_text names c) (seen c) blank inner in
          to_level m (w ++ 40 ∷ (rule_text names c ++ 41 ∷ [])) (seen c) k 4 le (subst (λ (j : ℕ). IsFactor (suc j) (w ++ 40 ∷ (rule_text names c ++ 41 ∷ [])) (seen c)) e whole)

      go : (b : Bool) → nat_lt (closeness c) k ≡ b → more_if b (open_signs c) ≤ m → At k (suc m) (w ++ enclosed_if b (rule_text names c)) (seen c)
      go true e few = enclosing (m - 1) (omega (arith, few)) (omega (arith, few))
      go false e few = to_level m (w ++ rule_text names c) (seen c) k (closeness c) (ltb-false (closeness c) k e) (reads m w few blank)

  inverse : (m : ℕ) (w : List ℕ) (c : Constraint ℕ) → Reads c → suc (more_if (nat_lt (closeness c) 4) (open_signs c)) ≤ m → AreBlank w
      → IsFactor (suc m) (w ++ 33 ∷ enclosed_if (nat_lt (closeness c) 4) (rule_text names c)) (negation (seen c))
  inverse m w c reads few blank =
      let e : suc (m - 1) ≡ m = omega (arith, few) in
      let inner = closer 4 c (omega arith) reads (m - 1) [] (omega (arith, few)) refl in
      not_factor m w (enclosed_if (nat_lt (closeness c) 4) (rule_text names c)) (seen c) blank
      (subst (λ (j : ℕ). IsFactor j (enclosed_if (nat_lt (closeness c) 4) (rule_text names c)) (seen c)) e inner)

  arrow_back : (m : ℕ) (w : List ℕ) (c d : Constraint ℕ) → Reads c → Reads d → open_signs (implication c d) ≤ m → AreBlank w
      → IsImplication (suc m) (w ++ rule_text names (implication c d)) (implication (seen c) (seen d))
  arrow_back m w c d left right few blank =
      let e : suc (m - 1) ≡ m = omega (arith, few) in
      let front = enclosed_if (nat_lt (closeness c) 2) (rule_text names c) in
      let behind = enclosed_if (nat_lt (closeness d) 1) (rule_text names d) in
      let before = closer 2 c (omega arith) left m w (omega (arith, few)) blank in
      let then = closer 1 d (omega arith) right (m - 1) (32 ∷ []) (omega (arith, few)) refl in
      subst (λ (t : List ℕ). IsImplication (suc m) t (implication (seen c) (seen d))) (around w front (32 ∷ []) (codes "=>") behind)
      (implication_of m (w ++ front) (32 ∷ behind) (seen c) (seen d) before (subst (λ (j : ℕ). IsImplication j (32 ∷ behind) (seen d)) e then))

  both_back : (m : ℕ) (w : List ℕ) (c d : Constraint ℕ) → Reads c → Reads d → open_signs (equivalence c d) ≤ m → AreBlank w
      → IsRule (suc m) (w ++ rule_text names (equivalence c d)) (equivalence (seen c) (seen d))
  both_back m w c d left right few blank =
      let e : suc (m - 1) ≡ m = omega (arith, few) in
      let front = enclosed_if (nat_lt (closeness c) 1) (rule_text names c) in
      let behind = rule_text names d in
      let before = closer 1 c (omega arith) left m w (omega (arith, few)) blank in
      let then = to_level (m - 1) (32 ∷ behind) (seen d) 0 (closeness d) (omega arith) (right (m - 1) (32 ∷ []) (omega (arith, few)) refl) in
      subst (λ (t : List ℕ). IsRule (suc m) t (equivalence (seen c) (seen d))) (around w front (32 ∷ []) (codes "<=>") behind)
      (equivalence_of m (w ++ front) (32 ∷ behind) (seen c) (seen d) before (subst (λ (j : ℕ). IsRule j (32 ∷ behind) (seen d)) e then))

  -- items that are joined
  module _ (Item : List ℕ → NamedRule → Type 0) (mark : List ℕ) where
    again : (text : List ℕ) (read : Parts (List ℕ)) → Items Item mark text read → Items Item mark (text ++ []) (put read no_parts)
    again text read items =
        subst (λ (t : List ℕ). Items Item mark t (put read no_parts)) (sym (append-nil text))
        (subst (λ (ps : Parts (List ℕ)). Items Item mark text ps) (sym (put_none read)) items)

    later : (text item behind : List ℕ) (read cs : Parts (List ℕ)) (c : NamedRule) → Items Item mark ((text ++ (32 ∷ []) ++ mark ++ ((32 ∷ []) ++ item)) ++ behind) (put (added read c) cs)
        → Items Item mark (text ++ (((32 ∷ []) ++ mark ++ (32 ∷ [])) ++ item ++ behind)) (put read (part c cs))
    later text item behind read cs c items =
        subst (λ (t : List ℕ). Items Item mark t (put read (part c cs))) (after text (32 ∷ []) mark item behind)
        (subst (λ (ps : Parts (List ℕ)). Items Item mark ((text ++ (32 ∷ []) ++ mark ++ ((32 ∷ []) ++ item)) ++ behind) ps) (put_added read c cs) items)

    several : (make : Parts (List ℕ) → NamedRule) (w front behind : List ℕ) (c d : NamedRule) (cs : Parts (List ℕ)) → Items Item mark ((w ++ front) ++ behind) (part c (part d cs)) → Series Item mark make (w ++ (front ++ behind)) (make (part c (part d cs)))
    several make w front behind c d cs items = record {
      parts = part c (part d cs);
      items = subst (λ (t : List ℕ). Items Item mark t (part c (part d cs))) (append_assoc w front behind) items;
      stands = refl;
    }

  abbrev in_parentheses : ℕ → Constraint ℕ → List ℕ
  in_parentheses k c = enclosed_if (nat_lt (closeness c) k) (rule_text names c)

  mutual
    pub reads_back : (c : Constraint ℕ) → IsBelow (length names) c → JoinsTwo c → Reads c
    reads_back always below joins m w few blank = constant_factor m w true blank
    reads_back never below joins m w few blank = constant_factor m w false blank
    reads_back (feature f) below joins m w few blank = name_factor m w (word_of f) blank (word_is_name f below)
    reads_back (negation c) below joins m w few blank = inverse m w c (reads_back c below joins) few blank
    reads_back (all no_parts) below joins m w few blank = absurd joins.0
    reads_back (all (part c no_parts)) below joins m w few blank = absurd joins.0
    reads_back (all (part c (part d cs))) below joins m w few blank =
        let first = closer 4 c (omega arith) (reads_back c below.0 joins.1.0) m w (omega (arith, few)) blank in
        several (IsFactor (suc m)) (codes "&") all w (in_parentheses 4 c) (more_all_text names (part d cs)) (seen c) (seen d) (each_renamed word_of cs) (all_back (part d cs) below.1 joins.1.1 m (omega (arith, few)) _ _ (one first))
    reads_back (any no_parts) below joins m w few blank = absurd joins.0
    reads_back (any (part c no_parts)) below joins m w few blank = absurd joins.0
    reads_back (any (part c (part d cs))) below joins m w few blank =
        let first = closer 3 c (omega arith) (reads_back c below.0 joins.1.0) m w (omega (arith, few)) blank in
        several (Series (IsFactor (suc m)) (codes "&") all) (codes "|") any w (in_parentheses 3 c) (more_any_text names (part d cs)) (seen c) (seen d) (each_renamed word_of cs) (any_back (part d cs) below.1 joins.1.1 m (omega (arith, few)) _ _ (one first))
    reads_back (implication c d) below joins m w few blank =
        arrow_back m w c d (reads_back c below.0 joins.0) (reads_back d below.1 joins.1) few blank
    reads_back (equivalence c d) below joins m w few blank =
        both_back m w c d (reads_back c below.0 joins.0) (reads_back d below.1 joins.1) few blank

    all_back : (cs : Parts ℕ) → AreBelow (length names) cs → EachJoinsTwo cs → (m : ℕ) → most_open 4 cs ≤ m → (text : List ℕ) (read : Parts (List ℕ)) → Items (IsFactor (suc m)) (codes "&") text read
        → Items (IsFactor (suc m)) (codes "&") (text ++ more_all_text names cs) (put read (each_renamed word_of cs))
    all_back no_parts below joins m few text read items = again (IsFactor (suc m)) (codes "&") text read items
    all_back (part c cs) below joins m few text read items =
        let next = closer 4 c (omega arith) (reads_back c below.0 joins.0) m (32 ∷ []) (omega (arith, few)) refl in
        later (IsFactor (suc m)) (codes "&") text (in_parentheses 4 c) (more_all_text names cs) read (each_renamed word_of cs) (seen c) (all_back cs below.1 joins.1 m (omega (arith, few)) _ _ (more (32 ∷ []) items refl next))

    any_back : (cs : Parts ℕ) → AreBelow (length names) cs → EachJoinsTwo cs → (m : ℕ) → most_open 3 cs ≤ m → (text : List ℕ) (read : Parts (List ℕ)) → Items (Series (IsFactor (suc m)) (codes "&") all) (codes "|") text read
        → Items (Series (IsFactor (suc m)) (codes "&") all) (codes "|") (text ++ more_any_text names cs) (put read (each_renamed word_of cs))
    any_back no_parts below joins m few text read items = again (Series (IsFactor (suc m)) (codes "&") all) (codes "|") text read items
    any_back (part c cs) below joins m few text read items =
        let next = closer 3 c (omega arith) (reads_back c below.0 joins.0) m (32 ∷ []) (omega (arith, few)) refl in
        later (Series (IsFactor (suc m)) (codes "&") all) (codes "|") text (in_parentheses 3 c) (more_any_text names cs) read (each_renamed word_of cs) (seen c) (any_back cs below.1 joins.1 m (omega (arith, few)) _ _ (more (32 ∷ []) items refl next))

  -- ---- names stand for their features

  index_back : (f : ℕ) → f < length names → index_or_end names (word_of f) ≡ f
  index_back f lt = ap (λ o. unwrap_or o (length names)) (index_of_held names (word_of f) f are.distinct (slice_get-get_or names f [] lt))

  mutual
    features_back : (c : Constraint ℕ) → IsBelow (length names) c → renamed (index_or_end names) (seen c) ≡ c
    features_back always below = refl
    features_back never below = refl
    features_back (feature f) below = ap feature (index_back f below)
    features_back (negation c) below = ap negation (features_back c below)
    features_back (all cs) below = ap all (parts_back cs below)
    features_back (any cs) below = ap any (parts_back cs below)
    features_back (implication c d) below = ap₂ (λ (x y : Constraint ℕ). implication x y) (features_back c below.0) (features_back d below.1)
    features_back (equivalence c d) below = ap₂ (λ (x y : Constraint ℕ). equivalence x y) (features_back c below.0) (features_back d below.1)

    parts_back : (cs : Parts ℕ) → AreBelow (length names) cs → each_renamed (index_or_end names) (each_renamed word_of cs) ≡ cs
    parts_back no_parts below = refl
    parts_back (part c cs) below = ap₂ (λ (x : Constraint ℕ) (xs : Parts ℕ). part x xs) (features_back c below.0) (parts_back cs below.1)

  pub written_back : (c : Constraint ℕ) → IsBelow (length names) c → JoinsTwo c → open_signs c ≤ 64 → ReadsAs names (rule_text names c) c
  written_back c below joins few =
      let whole = to_level 64 (rule_text names c) (seen c) 0 (closeness c) (omega arith) (reads_back c below joins 64 [] few refl) in
      (seen c, record { rule = rule_text names c; blanks = []; blank = refl; parts = sym (append-nil (rule_text names c)); is = whole }, features_back c below)
