-- A form and its line.
use Rattle.std.proofs.Common.{◌≡◌, ℕ, zero, suc, ◌+◌, ◌<◌, ◌≤◌, Bool, true, false, ◌&&◌, cond, nat_lt, nat_le, List, [], ◌∷◌, ◌++◌, length, map, Option, Some, None, Result, Ok, slice_get, refl, sym, ap, ap₂, ◌∙◌, subst, arith, append_assoc, append-nil}
use Rattle.std.specs.Prelude.{⊤}
use Rattle.std.specs.List.{range_with_len, AllByRecursion}
use Rattle.std.proofs.lemmas.Bool.{leb-true, ltb-true, le-leb, lt-ltb}
use Rattle.std.proofs.lemmas.Option.{slice_get-get_or, slice_get_within, get_or_from_slice_get}
use Rattle.vpg_features.specs.Names.{AreDistinct}
use Rattle.vpg_rules.specs.Constraint.{Constraint, renamed, features_in, IsBelow}
use Rattle.vpg_rules.specs.Clauses.{clause_count}
use Rattle.vpg_rules.specs.Grammar.{NamedRule, index_or_end}
use Rattle.vpg_rules.proofs.Features.{below_each, renamed_below, below_renamed, renamed_back, count_renamed}
use Rattle.vpg_diagram.proofs.RuleLemmas.{end_at, before_end, known_each, each_known}
use Rattle.vpg_diagram.proofs.Lists.{All-implies}
use Rattle.vpg_diagram.specs.FeatureDiagram.{Line, Mandatory, Optional, Alternative, Or, Group, Requires, Excludes, Formula, introduced, IsGroupAfter, StandsAfter}
use Rattle.vpg_diagram.specs.DiagramText.{Form, RootLine, MandatoryLine, OptionalLine, AlternativeLine, OrLine, GroupLine, RequiresLine, ExcludesLine, FormulaLine, name_of, named, rules_of, HasFewClauses}
use Rattle.vpg_diagram.specs.DiagramReading.{LineFault, UnknownFeature, TwoParents, TooManyClauses, TooMany, BadRange, checked, place_of_name, are_new, children_at, rule_at, are_known, formula_line, line_at, new_names, rules_in}
use Rattle.vpg_diagram.proofs.NameLemmas.{AreApart, distinct_from_apart, place_some, place_found, new_to_distinct, distinct_to_new, distinct_front, names_of_range, name_before}

checked_ok : {A : Type 0} (b : Bool) (fault : LineFault) (r : Result A LineFault) (x : A) → checked b fault r ≡ Ok x → (b ≡ true) × (r ≡ Ok x)
checked_ok true fault r x e = (refl, e)
checked_ok false fault r x e = absurd (cc)

ok_checked : {A : Type 0} (b : Bool) (fault : LineFault) (r : Result A LineFault) (x : A) → b ≡ true → r ≡ Ok x → checked b fault r ≡ Ok x
ok_checked true fault r x e f = f
ok_checked false fault r x e f = absurd (cc)

pub length-range : (first count : ℕ) → length (range_with_len first count) ≡ count
length-range first zero = refl
length-range first (suc count) = ap suc (length-range (first + 1) count)

-- the names of a form's members are one or more
abbrev pub HasSomeNames : Form → Type 0
HasSomeNames (RequiresLine a b) = ⊤
HasSomeNames (ExcludesLine a b) = ⊤
HasSomeNames (FormulaLine c) = ⊤
HasSomeNames form = 0 < length (new_names form)

-- what a line that is read says
pub record IsLineOf (names : List (List ℕ)) (rules : ℕ) (form : Form) (line : Line) : Type 0 where
  pub stands : StandsAfter (length names) line
  pub as_many : length (new_names form) ≡ length (introduced line)
  pub distinct : AreApart (names ++ new_names form)
  pub few_names : length names + length (new_names form) ≤ 512
  pub few_rules : rules + rules_in form ≤ 16384
  pub rule : ◌≡◌ {A = ℕ} (rules_of line) (rules_in form)
  pub few_clauses : HasFewClauses line
  pub named_so : (more : List (List ℕ)) → named (names ++ (new_names form ++ more)) line ≡ form

-- what children that are read say
record ChildrenAre (names : List (List ℕ)) (parent : List ℕ) (members : List (List ℕ)) (line : ℕ → List ℕ → Line) (fits : Bool) (l : Line) : Type 0 where
  place : ℕ
  found : slice_get names place ≡ Some parent
  new : are_new names members ≡ true
  few : length names + length members ≤ 512
  range : fits ≡ true
  line_is : line place (range_with_len (length names) (length members)) ≡ l

children_sound : (names : List (List ℕ)) (parent : List ℕ) (members : List (List ℕ)) (line : ℕ → List ℕ → Line) (fits : Bool) (l : Line) →
    children_at names (place_of_name names parent) members line fits ≡ Ok l → ChildrenAre names parent members line fits l
children_sound names parent members line fits l e = go (place_of_name names parent) refl e
  where
    go : (o : Option ℕ) → place_of_name names parent ≡ o → children_at names o members line fits ≡ Ok l → ChildrenAre names parent members line fits l
    go None p e = absurd (cc)
    go (Some k) p e =
        let last : Result Line LineFault = Ok (line k (range_with_len (length names) (length members))) in
        let a = checked_ok (are_new names members) TwoParents (checked (nat_le (length names + length members) 512) TooMany (checked fits BadRange last)) l e in
        let b = checked_ok (nat_le (length names + length members) 512) TooMany (checked fits BadRange last) l a.1 in
        let c = checked_ok fits BadRange last l b.1 in
        record { place = k; found = place_some names parent k p; new = a.0; few = leb-true (length names + length members) 512 b.0; range = c.0; line_is = (let w = c.1 in cc) }

name_at_place : (names more : List (List ℕ)) (name : List ℕ) (k : ℕ) → slice_get names k ≡ Some name → name_of (names ++ more) k ≡ name
name_at_place names more name k s = name_before names more k (slice_get_within names k name s) ∙ get_or_from_slice_get names k name [] s

one_name_of_range : (names : List (List ℕ)) (c : List ℕ) (more : List (List ℕ)) → name_of (names ++ (c ∷ more)) (length names) ≡ c
one_name_of_range names c more = let r = names_of_range names (c ∷ []) more in cc

group_after : (names : List (List ℕ)) (parent : List ℕ) (members : List (List ℕ)) (k : ℕ) → slice_get names k ≡ Some parent → 0 < length members → IsGroupAfter (length names) k (range_with_len (length names) (length members))
group_after names parent members k s p = record {
  parent_known = slice_get_within names k parent s;
  some = omega (arith, length-range (length names) (length members));
  next = ap (range_with_len (length names)) (sym (length-range (length names) (length members)));
}

-- what a formula that is read says
record FormulaIs (names : List (List ℕ)) (rules : ℕ) (c : NamedRule) (l : Line) : Type 0 where
  known : AllByRecursion (λ w. index_or_end names w < length names) (features_in c)
  few : clause_count c ≤ 64
  room : rules + clause_count c ≤ 16384
  line_is : Formula (renamed (index_or_end names) c) ≡ l

formula_sound : (names : List (List ℕ)) (rules : ℕ) (c : NamedRule) (l : Line) → formula_line names rules c ≡ Ok l → FormulaIs names rules c l
formula_sound names rules c l e =
    let last : Result Line LineFault = Ok (Formula (renamed (index_or_end names) c)) in
    let x = checked_ok (are_known names (features_in c)) UnknownFeature (checked (nat_le (clause_count c) 64) TooManyClauses (checked (nat_le (rules + clause_count c) 16384) TooMany last)) l e in
    let y = checked_ok (nat_le (clause_count c) 64) TooManyClauses (checked (nat_le (rules + clause_count c) 16384) TooMany last) l x.1 in
    let z = checked_ok (nat_le (rules + clause_count c) 16384) TooMany last l y.1 in
    record { known = known_each names (features_in c) x.0; few = leb-true (clause_count c) 64 y.0; room = leb-true (rules + clause_count c) 16384 z.0; line_is = (let w = z.1 in cc) }

pub line_sound : (names : List (List ℕ)) (rules : ℕ) (form : Form) (l : Line) → AreApart names → length names ≤ 512 → rules ≤ 16384 → HasSomeNames form →
    line_at names rules form ≡ Ok l → IsLineOf names rules form l
line_sound names rules (RootLine r) l d n m s e = absurd (cc)
line_sound names rules (MandatoryLine p c) l d n m s e =
    let r = children_sound names p (c ∷ []) (λ k _. Mandatory k (length names)) true l e in
    subst (IsLineOf names rules (MandatoryLine p c)) r.line_is (record {
      stands = (slice_get_within names r.place p r.found, refl);
      as_many = refl;
      distinct = new_to_distinct names (c ∷ []) d r.new;
      few_names = r.few;
      few_rules = omega arith;
      rule = refl;
      few_clauses = tt;
      named_so = λ more. ap₂ MandatoryLine (name_at_place names (c ∷ more) p r.place r.found) (one_name_of_range names c more);
    })
line_sound names rules (OptionalLine p c) l d n m s e =
    let r = children_sound names p (c ∷ []) (λ k _. Optional k (length names)) true l e in
    subst (IsLineOf names rules (OptionalLine p c)) r.line_is (record {
      stands = (slice_get_within names r.place p r.found, refl);
      as_many = refl;
      distinct = new_to_distinct names (c ∷ []) d r.new;
      few_names = r.few;
      few_rules = omega arith;
      rule = refl;
      few_clauses = tt;
      named_so = λ more. ap₂ OptionalLine (name_at_place names (c ∷ more) p r.place r.found) (one_name_of_range names c more);
    })
line_sound names rules (AlternativeLine p cs) l d n m s e =
    let r = children_sound names p cs Alternative true l e in
    subst (IsLineOf names rules (AlternativeLine p cs)) r.line_is (record {
      stands = group_after names p cs r.place r.found s;
      as_many = sym (length-range (length names) (length cs));
      distinct = new_to_distinct names cs d r.new;
      few_names = r.few;
      few_rules = omega arith;
      rule = refl;
      few_clauses = tt;
      named_so = λ more. ap₂ AlternativeLine (name_at_place names (cs ++ more) p r.place r.found) (names_of_range names cs more);
    })
line_sound names rules (OrLine p cs) l d n m s e =
    let r = children_sound names p cs Or true l e in
    subst (IsLineOf names rules (OrLine p cs)) r.line_is (record {
      stands = group_after names p cs r.place r.found s;
      as_many = sym (length-range (length names) (length cs));
      distinct = new_to_distinct names cs d r.new;
      few_names = r.few;
      few_rules = omega arith;
      rule = refl;
      few_clauses = tt;
      named_so = λ more. ap₂ OrLine (name_at_place names (cs ++ more) p r.place r.found) (names_of_range names cs more);
    })
line_sound names rules (GroupLine p low high cs) l d n m s e =
    let r = children_sound names p cs (λ k ks. Group k low high ks) (nat_le low high && nat_le high (length cs)) l e in
    let b = and_parts (nat_le low high) (nat_le high (length cs)) r.range in
    subst (IsLineOf names rules (GroupLine p low high cs)) r.line_is (record {
      stands = (group_after names p cs r.place r.found s, leb-true low high b.0, omega (arith, leb-true high (length cs) b.1, length-range (length names) (length cs)));
      as_many = sym (length-range (length names) (length cs));
      distinct = new_to_distinct names cs d r.new;
      few_names = r.few;
      few_rules = omega arith;
      rule = refl;
      few_clauses = tt;
      named_so = λ more. ap₂ (λ x xs. GroupLine x low high xs) (name_at_place names (cs ++ more) p r.place r.found) (names_of_range names cs more);
    })
  where
    and_parts : (a b : Bool) → (a && b) ≡ true → (a ≡ true) × (b ≡ true)
    and_parts true b e = (refl, e)
    and_parts false b e = absurd (cc)
line_sound names rules (RequiresLine a b) l d n m s e = go (place_of_name names a) (place_of_name names b) refl refl e
  where
    go : (o q : Option ℕ) → place_of_name names a ≡ o → place_of_name names b ≡ q → rule_at rules o q Requires ≡ Ok l → IsLineOf names rules (RequiresLine a b) l
    go None q f g e = absurd (cc)
    go (Some i) None f g e = absurd (cc)
    go (Some i) (Some j) f g e =
        let c = checked_ok (nat_lt rules 16384) TooMany (Ok (Requires i j)) l e in
        let w : Requires i j ≡ l = (let x = c.1 in cc) in
        subst (IsLineOf names rules (RequiresLine a b)) w (record {
          stands = (slice_get_within names i a (place_some names a i f), slice_get_within names j b (place_some names b j g));
          as_many = refl;
          distinct = subst AreApart (sym (append-nil names)) d;
          few_names = omega arith;
          few_rules = (let x : rules < 16384 = ltb-true rules 16384 c.0 in omega arith);
          rule = refl;
          few_clauses = tt;
          named_so = λ more. ap₂ RequiresLine (name_at_place names more a i (place_some names a i f)) (name_at_place names more b j (place_some names b j g));
        })
line_sound names rules (ExcludesLine a b) l d n m s e = go (place_of_name names a) (place_of_name names b) refl refl e
  where
    go : (o q : Option ℕ) → place_of_name names a ≡ o → place_of_name names b ≡ q → rule_at rules o q Excludes ≡ Ok l → IsLineOf names rules (ExcludesLine a b) l
    go None q f g e = absurd (cc)
    go (Some i) None f g e = absurd (cc)
    go (Some i) (Some j) f g e =
        let c = checked_ok (nat_lt rules 16384) TooMany (Ok (Excludes i j)) l e in
        let w : Excludes i j ≡ l = (let x = c.1 in cc) in
        subst (IsLineOf names rules (ExcludesLine a b)) w (record {
          stands = (slice_get_within names i a (place_some names a i f), slice_get_within names j b (place_some names b j g));
          as_many = refl;
          distinct = subst AreApart (sym (append-nil names)) d;
          few_names = omega arith;
          few_rules = (let x : rules < 16384 = ltb-true rules 16384 c.0 in omega arith);
          rule = refl;
          few_clauses = tt;
          named_so = λ more. ap₂ ExcludesLine (name_at_place names more a i (place_some names a i f)) (name_at_place names more b j (place_some names b j g));
        })
line_sound names rules (FormulaLine c) l d n m s e =
    let r = formula_sound names rules c l e in
    let to = index_or_end names in
    subst (IsLineOf names rules (FormulaLine c)) r.line_is (record {
      stands = renamed_below (length names) to c r.known;
      as_many = refl;
      distinct = subst AreApart (sym (append-nil names)) d;
      few_names = omega arith;
      few_rules = r.room;
      rule = count_renamed to c;
      few_clauses = subst (λ (k : ℕ). k ≤ 64) (sym (count_renamed to c)) r.few;
      named_so = λ more. ap FormulaLine (renamed_back to (name_of (names ++ more)) c
          (All-implies (λ w. index_or_end names w < length names) (λ w. name_of (names ++ more) (index_or_end names w) ≡ w) (features_in c)
          (λ w lt. name_at_place names more w (index_or_end names w) (before_end names w lt)) r.known));
    })

pub children_complete : (names : List (List ℕ)) (parent : List ℕ) (p : ℕ) (members : List (List ℕ)) (line : ℕ → List ℕ → Line) (fits : Bool) →
    place_of_name names parent ≡ Some p → are_new names members ≡ true → length names + length members ≤ 512 → fits ≡ true →
    children_at names (place_of_name names parent) members line fits ≡ Ok (line p (range_with_len (length names) (length members)))
children_complete names parent p members line fits f a few t =
    let last : Result Line LineFault = Ok (line p (range_with_len (length names) (length members))) in
    ap (λ o. children_at names o members line fits) f ∙
    ok_checked (are_new names members) TwoParents (checked (nat_le (length names + length members) 512) TooMany (checked fits BadRange last)) (line p (range_with_len (length names) (length members))) a
    (ok_checked (nat_le (length names + length members) 512) TooMany (checked fits BadRange last) (line p (range_with_len (length names) (length members))) (le-leb (length names + length members) 512 few)
    (ok_checked fits BadRange last (line p (range_with_len (length names) (length members))) t refl))

-- what the line of a diagram gives when it is read
pub record IsReadBack (names : List (List ℕ)) (rules : ℕ) (form : Form) (line : Line) (new : List (List ℕ)) : Type 0 where
  pub read : line_at names rules form ≡ Ok line
  pub names_are : new_names form ≡ new
  pub rules_are : ◌≡◌ {A = ℕ} (rules_in form) (rules_of line)

module _ (names : List (List ℕ)) (rules : ℕ) (new more : List (List ℕ)) (distinct : AreApart (names ++ (new ++ more))) (few : length names + length new ≤ 512) where
  place_there : (p : ℕ) → p < length names → place_of_name names (name_of (names ++ (new ++ more)) p) ≡ Some p
  place_there p l = place_found names (name_of (names ++ (new ++ more)) p) p (distinct_front names (new ++ more) distinct)
      (slice_get-get_or names p [] l ∙ ap Some (sym (name_before names (new ++ more) p l)))

  new_there : are_new names new ≡ true
  new_there = distinct_to_new names new (distinct_front (names ++ new) more (subst AreApart (sym (append_assoc names new more)) distinct))

  -- the names of the next numbers
  next_names : (cs : List ℕ) → length new ≡ length cs → cs ≡ range_with_len (length names) (length cs) → map (name_of (names ++ (new ++ more))) cs ≡ new
  next_names cs l e = ap (map (name_of (names ++ (new ++ more)))) (e ∙ ap (range_with_len (length names)) (sym l)) ∙ names_of_range names new more

  -- children of a parent are read as they are
  children_back : (p : ℕ) (cs : List ℕ) (members : List (List ℕ)) (line : ℕ → List ℕ → Line) (fits : Bool) → p < length names → length new ≡ length cs → cs ≡ range_with_len (length names) (length cs) → members ≡ new → fits ≡ true →
      children_at names (place_of_name names (name_of (names ++ (new ++ more)) p)) members line fits ≡ Ok (line p cs)
  children_back p cs members line fits l n e m t =
      let k : length members ≡ length cs = ap length m ∙ n in
      children_complete names (name_of (names ++ (new ++ more)) p) p members line fits (place_there p l) (ap (are_new names) m ∙ new_there) (omega (arith, ap length m)) t
      ∙ ap (λ xs. Ok (line p xs)) (ap (range_with_len (length names)) k ∙ sym e)

  le_both : (low high n : ℕ) → low ≤ high → high ≤ n → (nat_le low high && nat_le high n) ≡ true
  le_both low high n a b = ap (λ x. x && nat_le high n) (le-leb low high a) ∙ le-leb high n b

  rule_back : (a b : ℕ) (line : ℕ → ℕ → Line) → a < length names → b < length names → rules < 16384 →
      rule_at rules (place_of_name names (name_of (names ++ (new ++ more)) a)) (place_of_name names (name_of (names ++ (new ++ more)) b)) line ≡ Ok (line a b)
  rule_back a b line l k r =
      ap₂ (λ o q. rule_at rules o q line) (place_there a l) (place_there b k) ∙ ok_checked (nat_lt rules 16384) TooMany (Ok (line a b)) (line a b) (lt-ltb rules 16384 r) refl

  empty_new : length new ≡ 0 → [] ≡ new
  empty_new e = sym (Rattle.std.proofs.lemmas.List.nil_from_length new e)

  pub line_complete : (line : Line) → StandsAfter (length names) line → length new ≡ length (introduced line) → rules + rules_of line ≤ 16384 → HasFewClauses line →
      IsReadBack names rules (named (names ++ (new ++ more)) line) line new
  line_complete (Mandatory p c) s l r few_clauses =
      let one : length names ∷ [] ≡ c ∷ [] = ap (λ x. x ∷ []) (sym s.1) in
      let ns = next_names (c ∷ []) l (sym one) in
      record { read = children_back p (c ∷ []) (name_of (names ++ (new ++ more)) c ∷ []) (λ k _. Mandatory k (length names)) true s.0 l (sym one) ns refl ∙ ap (λ x. Ok (Mandatory p x)) (sym s.1); names_are = ns; rules_are = refl }
  line_complete (Optional p c) s l r few_clauses =
      let one : length names ∷ [] ≡ c ∷ [] = ap (λ x. x ∷ []) (sym s.1) in
      let ns = next_names (c ∷ []) l (sym one) in
      record { read = children_back p (c ∷ []) (name_of (names ++ (new ++ more)) c ∷ []) (λ k _. Optional k (length names)) true s.0 l (sym one) ns refl ∙ ap (λ x. Ok (Optional p x)) (sym s.1); names_are = ns; rules_are = refl }
  line_complete (Alternative p cs) s l r few_clauses =
      let ns = next_names cs l s.next in
      record { read = children_back p cs (map (name_of (names ++ (new ++ more))) cs) Alternative true s.parent_known l s.next ns refl; names_are = ns; rules_are = refl }
  line_complete (Or p cs) s l r few_clauses =
      let ns = next_names cs l s.next in
      record { read = children_back p cs (map (name_of (names ++ (new ++ more))) cs) Or true s.parent_known l s.next ns refl; names_are = ns; rules_are = refl }
  line_complete (Group p low high cs) s l r few_clauses =
      let ns = next_names cs l s.0.next in
      record {
        read = children_back p cs (map (name_of (names ++ (new ++ more))) cs) (λ k ks. Group k low high ks) (nat_le low high && nat_le high (length (map (name_of (names ++ (new ++ more))) cs))) s.0.parent_known l s.0.next ns
            (le_both low high (length (map (name_of (names ++ (new ++ more))) cs)) s.1 (omega (arith, s.2, ap length ns, l)));
        names_are = ns;
        rules_are = refl;
      }
  line_complete (Requires a b) s l r few_clauses = record { read = rule_back a b Requires s.0 s.1 (omega arith); names_are = empty_new l; rules_are = refl }
  line_complete (Excludes a b) s l r few_clauses = record { read = rule_back a b Excludes s.0 s.1 (omega arith); names_are = empty_new l; rules_are = refl }
  line_complete (Formula c) s l r few_clauses =
      let back = name_of (names ++ (new ++ more)) in
      let to = index_or_end names in
      let apart : AreDistinct names = distinct_from_apart names (distinct_front names (new ++ more) distinct) in
      let at : (f : ℕ) → f < length names → index_or_end names (name_of (names ++ (new ++ more)) f) ≡ f =
      λ f lt. end_at names (name_of (names ++ (new ++ more)) f) f apart (slice_get-get_or names f [] lt ∙ ap Some (sym (name_before names (new ++ more) f lt))) in
      let same : renamed to (renamed back c) ≡ c =
      renamed_back back to c (All-implies (λ f. f < length names) (λ f. index_or_end names (name_of (names ++ (new ++ more)) f) ≡ f) (features_in c) at (below_each (length names) c s)) in
      let count : clause_count (renamed back c) ≡ clause_count c = count_renamed back c in
      let last : Result Line LineFault = Ok (Formula (renamed to (renamed back c))) in
      record {
        read = ok_checked (are_known names (features_in (renamed back c))) UnknownFeature
            (checked (nat_le (clause_count (renamed back c)) 64) TooManyClauses (checked (nat_le (rules + clause_count (renamed back c)) 16384) TooMany last)) (Formula c)
            (each_known names (features_in (renamed back c)) (below_renamed (length names) to (renamed back c) (subst (IsBelow (length names)) (sym same) s)))
            (ok_checked (nat_le (clause_count (renamed back c)) 64) TooManyClauses (checked (nat_le (rules + clause_count (renamed back c)) 16384) TooMany last) (Formula c)
            (le-leb (clause_count (renamed back c)) 64 (subst (λ (k : ℕ). k ≤ 64) (sym count) few_clauses))
            (ok_checked (nat_le (rules + clause_count (renamed back c)) 16384) TooMany last (Formula c)
            (le-leb (rules + clause_count (renamed back c)) 16384 (subst (λ (k : ℕ). rules + k ≤ 16384) (sym count) r)) (ap (λ x. Ok (Formula x)) same)));
        names_are = empty_new l;
        rules_are = count;
      }

-- a form has as many rules as its line
pub rules_of_line : (names : List (List ℕ)) (rules : ℕ) (form : Form) (l : Line) → line_at names rules form ≡ Ok l → ◌≡◌ {A = ℕ} (rules_of l) (rules_in form)
rules_of_line names rules (RootLine r) l e = absurd (cc)
rules_of_line names rules (MandatoryLine p c) l e = subst (λ (x : Line). ◌≡◌ {A = ℕ} (rules_of x) 0) (children_sound names p (c ∷ []) (λ k _. Mandatory k (length names)) true l e).line_is refl
rules_of_line names rules (OptionalLine p c) l e = subst (λ (x : Line). ◌≡◌ {A = ℕ} (rules_of x) 0) (children_sound names p (c ∷ []) (λ k _. Optional k (length names)) true l e).line_is refl
rules_of_line names rules (AlternativeLine p cs) l e = subst (λ (x : Line). ◌≡◌ {A = ℕ} (rules_of x) 0) (children_sound names p cs Alternative true l e).line_is refl
rules_of_line names rules (OrLine p cs) l e = subst (λ (x : Line). ◌≡◌ {A = ℕ} (rules_of x) 0) (children_sound names p cs Or true l e).line_is refl
rules_of_line names rules (GroupLine p low high cs) l e =
    subst (λ (x : Line). ◌≡◌ {A = ℕ} (rules_of x) 0) (children_sound names p cs (λ k ks. Group k low high ks) (nat_le low high && nat_le high (length cs)) l e).line_is refl
rules_of_line names rules (RequiresLine a b) l e = go (place_of_name names a) (place_of_name names b) e
  where
    go : (o q : Option ℕ) → rule_at rules o q Requires ≡ Ok l → ◌≡◌ {A = ℕ} (rules_of l) 1
    go None q e = absurd (cc)
    go (Some i) None e = absurd (cc)
    go (Some i) (Some j) e =
        let w : Requires i j ≡ l = (let x = (checked_ok (nat_lt rules 16384) TooMany (Ok (Requires i j)) l e).1 in cc) in
        subst (λ (x : Line). ◌≡◌ {A = ℕ} (rules_of x) 1) w refl
rules_of_line names rules (ExcludesLine a b) l e = go (place_of_name names a) (place_of_name names b) e
  where
    go : (o q : Option ℕ) → rule_at rules o q Excludes ≡ Ok l → ◌≡◌ {A = ℕ} (rules_of l) 1
    go None q e = absurd (cc)
    go (Some i) None e = absurd (cc)
    go (Some i) (Some j) e =
        let w : Excludes i j ≡ l = (let x = (checked_ok (nat_lt rules 16384) TooMany (Ok (Excludes i j)) l e).1 in cc) in
        subst (λ (x : Line). ◌≡◌ {A = ℕ} (rules_of x) 1) w refl
rules_of_line names rules (FormulaLine c) l e =
    subst (λ (x : Line). ◌≡◌ {A = ℕ} (rules_of x) (clause_count c)) (formula_sound names rules c l e).line_is (count_renamed (index_or_end names) c)

-- the rules of a line have room
rule_room : (rules : ℕ) (o q : Option ℕ) (line : ℕ → ℕ → Line) (l : Line) → rule_at rules o q line ≡ Ok l → rules + 1 ≤ 16384
rule_room rules None q line l e = absurd (cc)
rule_room rules (Some i) None line l e = absurd (cc)
rule_room rules (Some i) (Some j) line l e = let under : rules < 16384 = ltb-true rules 16384 (checked_ok (nat_lt rules 16384) TooMany (Ok (line i j)) l e).0 in omega arith

pub room_after : (names : List (List ℕ)) (rules : ℕ) (form : Form) (l : Line) → rules ≤ 16384 → line_at names rules form ≡ Ok l → rules + rules_in form ≤ 16384
room_after names rules (RootLine r) l m e = absurd (cc)
room_after names rules (MandatoryLine p c) l m e = omega arith
room_after names rules (OptionalLine p c) l m e = omega arith
room_after names rules (AlternativeLine p cs) l m e = omega arith
room_after names rules (OrLine p cs) l m e = omega arith
room_after names rules (GroupLine p low high cs) l m e = omega arith
room_after names rules (RequiresLine a b) l m e = rule_room rules (place_of_name names a) (place_of_name names b) Requires l e
room_after names rules (ExcludesLine a b) l m e = rule_room rules (place_of_name names a) (place_of_name names b) Excludes l e
room_after names rules (FormulaLine c) l m e = (formula_sound names rules c l e).room
