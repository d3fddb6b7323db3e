-- Faults of a text.
use Rattle.std.proofs.Common.{◌≡◌, ◌≢◌, ℕ, zero, suc, ◌+◌, ◌-◌, ◌<◌, ◌≤◌, Bool, true, false, not, ◌&&◌, cond, nat_lt, nat_le, List, [], ◌∷◌, ◌++◌, length, map, filter, Option, Some, None, Result, Ok, Err, IsTrue, slice_get, sum_by, ◌⊎◌, inl, inr, refl, sym, ap, ap₂, ◌∙◌, subst, subst₂, arith, append_assoc, append-nil, length-append, one-add}
use Rattle.std.specs.List.{AllByRecursion, AllZip}
use Rattle.std.specs.Str.Lines.{lines}
use Rattle.std.proofs.lemmas.Bool.{both_ways, leb-false, ltb-false, leb-true, and_cases}
use Rattle.std.proofs.lemmas.Option.{slice_get_within}
use Rattle.vpg_rules.specs.Constraint.{renamed, features_in}
use Rattle.vpg_rules.specs.Clauses.{clause_count}
use Rattle.vpg_rules.specs.Grammar.{NamedRule, index_or_end}
use Rattle.vpg_diagram.proofs.Lists.{All-implies}
use Rattle.vpg_diagram.proofs.RuleLemmas.{end_at, before_end, known_each, each_known}
use Rattle.vpg_diagram.specs.FeatureDiagram.{Line, Mandatory, Optional, Alternative, Or, Group, Requires, Excludes, Formula}
use Rattle.vpg_features.specs.Names.{AreDistinct}
use Rattle.vpg_diagram.specs.DiagramText.{Form, RootLine, MandatoryLine, OptionalLine, AlternativeLine, OrLine, GroupLine, RequiresLine, ExcludesLine, FormulaLine, SpellsForm, NamedDiagram, rules_of}
use Rattle.vpg_diagram.specs.DiagramReading.{LineFault, Syntax, TwoRoots, UnknownFeature, TwoParents, TooManyClauses, TooMany, BadRange, Fault, NoRoot, At, checked, place_of_name, are_new, children_at, rule_at, are_known, formula_line, line_at, form_of, new_names, rules_in, with_line, with_root, after_line, after_form, read_lines, after_root, read_root, reading}
use Rattle.vpg_diagram.specs.TextFaults.{not_blank, AreLinesOf, earlier_names, IsOther, IsAmong, HasBadRange, HasManyClauses, IsFormFault, IsLineFault, IsRootFault, IsFaultAt, fault_at, IsFirstFault}
use Rattle.vpg_diagram.specs.ReadCode.{fault_of}
use Rattle.vpg_diagram.proofs.NameLemmas.{AreApart, apart_from_distinct, distinct_from_apart, place_some, place_none, new_to_distinct, distinct_to_new}
use Rattle.vpg_diagram.proofs.FormLemmas.{form_sound, form_complete}
use Rattle.vpg_diagram.proofs.LineLemmas.{IsLineOf, line_sound}
use Rattle.vpg_diagram.proofs.TextLemmas.{chosen_way, some_names, count_rules, root_sound}

-- what is refused of children
children_fault : (names : List (List ℕ)) (rules : ℕ) (form : Form) (parent : List ℕ) (line : ℕ → List ℕ → Line) (fits : Bool) (kind : LineFault) →
    AreApart names → IsOther form → earlier_names form ≡ parent ∷ [] → (fits ≡ false → HasBadRange form) → (HasManyClauses form → ⊥) →
    children_at names (place_of_name names parent) (new_names form) line fits ≡ Err kind → IsFormFault names rules form kind
children_fault names rules form parent line fits kind u o early bad not_many e = go (place_of_name names parent) refl e
  where
    ok : ℕ → Result Line LineFault
    ok k = Ok (line k (Rattle.std.specs.List.range_with_len (length names) (length (new_names form))))

    among : (k : ℕ) → place_of_name names parent ≡ Some k → AllByRecursion (IsAmong names) (earlier_names form)
    among k p = subst (AllByRecursion (IsAmong names)) (sym early) ((k, place_some names parent k p), tt)

    at_range : (k : ℕ) → place_of_name names parent ≡ Some k → are_new names (new_names form) ≡ true → length names + length (new_names form) ≤ 512 → (b : Bool) → fits ≡ b → checked b BadRange (ok k) ≡ Err kind → IsFormFault names rules form kind
    at_range k p n few true f e = absurd (cc)
    at_range k p n few false f e =
        let w : BadRange ≡ kind = cc in
        subst (IsFormFault names rules form) w (o, among k p, distinct_from_apart (names ++ new_names form) (new_to_distinct names (new_names form) u n), few, bad f)

    at_few : (k : ℕ) → place_of_name names parent ≡ Some k → are_new names (new_names form) ≡ true → (b : Bool) → nat_le (length names + length (new_names form)) 512 ≡ b → checked b TooMany (checked fits BadRange (ok k)) ≡ Err kind → IsFormFault names rules form kind
    at_few k p n true f e = at_range k p n (leb-true (length names + length (new_names form)) 512 f) fits refl e
    at_few k p n false f e =
        let w : TooMany ≡ kind = cc in
        subst (IsFormFault names rules form) w (o, among k p, distinct_from_apart (names ++ new_names form) (new_to_distinct names (new_names form) u n), not_many, inl (leb-false (length names + length (new_names form)) 512 f))

    at_new : (k : ℕ) → place_of_name names parent ≡ Some k → (b : Bool) → are_new names (new_names form) ≡ b → checked b TwoParents (checked (nat_le (length names + length (new_names form)) 512) TooMany (checked fits BadRange (ok k))) ≡ Err kind → IsFormFault names rules form kind
    at_new k p true f e = at_few k p f (nat_le (length names + length (new_names form)) 512) refl e
    at_new k p false f e =
        let w : TwoParents ≡ kind = cc in
        subst (IsFormFault names rules form) w (o, among k p, λ d. both_ways (are_new names (new_names form)) f (distinct_to_new names (new_names form) (apart_from_distinct (names ++ new_names form) d)))

    go : (x : Option ℕ) → place_of_name names parent ≡ x → children_at names x (new_names form) line fits ≡ Err kind → IsFormFault names rules form kind
    go None p e =
        let w : UnknownFeature ≡ kind = cc in
        subst (IsFormFault names rules form) w (o, λ a. let one = subst (AllByRecursion (IsAmong names)) early a in place_none names parent p one.0.0 one.0.1)
    go (Some k) p e = at_new k p (are_new names (new_names form)) refl e

rule_fault : (names : List (List ℕ)) (rules : ℕ) (form : Form) (a b : List ℕ) (line : ℕ → ℕ → Line) (kind : LineFault) →
    AreApart names → IsOther form → earlier_names form ≡ a ∷ b ∷ [] → new_names form ≡ [] → ◌≡◌ {A = ℕ} (rules_in form) 1 → (HasManyClauses form → ⊥) →
    rule_at rules (place_of_name names a) (place_of_name names b) line ≡ Err kind → IsFormFault names rules form kind
rule_fault names rules form a b line kind u o early new one not_many e = go (place_of_name names a) (place_of_name names b) refl refl e
  where
    at_room : (i j : ℕ) → place_of_name names a ≡ Some i → place_of_name names b ≡ Some j → (t : Bool) → nat_lt rules 16384 ≡ t → checked t TooMany (Ok (line i j)) ≡ Err kind → IsFormFault names rules form kind
    at_room i j p q true f e = absurd (cc)
    at_room i j p q false f e =
        let w : TooMany ≡ kind = cc in
        let full : 16384 ≤ rules = ltb-false rules 16384 f in
        subst (IsFormFault names rules form) w (
          o,
          subst (AllByRecursion (IsAmong names)) (sym early) ((i, place_some names a i p), ((j, place_some names b j q), tt)),
          subst AreDistinct (sym (ap (λ x. names ++ x) new ∙ append-nil names)) (distinct_from_apart names u),
          not_many,
          inr (omega arith),
        )

    go : (x y : Option ℕ) → place_of_name names a ≡ x → place_of_name names b ≡ y → rule_at rules x y line ≡ Err kind → IsFormFault names rules form kind
    go None y p q e =
        let w : UnknownFeature ≡ kind = cc in
        subst (IsFormFault names rules form) w (o, λ all. let two = subst (AllByRecursion (IsAmong names)) early all in place_none names a p two.0.0 two.0.1)
    go (Some i) None p q e =
        let w : UnknownFeature ≡ kind = cc in
        subst (IsFormFault names rules form) w (o, λ all. let two = subst (AllByRecursion (IsAmong names)) early all in place_none names b q two.1.0.0 two.1.0.1)
    go (Some i) (Some j) p q e = at_room i j p q (nat_lt rules 16384) refl e

-- what is refused of a formula
formula_fault : (names : List (List ℕ)) (rules : ℕ) (c : NamedRule) (kind : LineFault) → AreApart names → formula_line names rules c ≡ Err kind → IsFormFault names rules (FormulaLine c) kind
formula_fault names rules c kind u e = at_names (are_known names (features_in c)) refl e
  where
    distinct : AreDistinct names
    distinct = distinct_from_apart names u

    last : Result Line LineFault
    last = Ok (Formula (renamed (index_or_end names) c))

    alone : AreDistinct (names ++ [])
    alone = subst AreDistinct (sym (append-nil names)) distinct

    among : are_known names (features_in c) ≡ true → AllByRecursion (IsAmong names) (features_in c)
    among f = All-implies (λ w. index_or_end names w < length names) (IsAmong names) (features_in c) (λ w lt. (index_or_end names w, before_end names w lt)) (known_each names (features_in c) f)

    there : (w : List ℕ) → IsAmong names w → index_or_end names w < length names
    there w h = subst (λ (k : ℕ). k < length names) (sym (end_at names w h.0 distinct h.1)) (slice_get_within names h.0 w h.1)

    at_room : are_known names (features_in c) ≡ true → clause_count c ≤ 64 → (t : Bool) → nat_le (rules + clause_count c) 16384 ≡ t → checked t TooMany last ≡ Err kind → IsFormFault names rules (FormulaLine c) kind
    at_room f few true g e = absurd (cc)
    at_room f few false g e =
        let w : TooMany ≡ kind = cc in
        subst (IsFormFault names rules (FormulaLine c)) w (tt, among f, alone, λ many. absurd (omega arith), inr (leb-false (rules + clause_count c) 16384 g))

    at_few : are_known names (features_in c) ≡ true → (t : Bool) → nat_le (clause_count c) 64 ≡ t → checked t TooManyClauses (checked (nat_le (rules + clause_count c) 16384) TooMany last) ≡ Err kind → IsFormFault names rules (FormulaLine c) kind
    at_few f true g e = at_room f (leb-true (clause_count c) 64 g) (nat_le (rules + clause_count c) 16384) refl e
    at_few f false g e =
        let w : TooManyClauses ≡ kind = cc in
        subst (IsFormFault names rules (FormulaLine c)) w (tt, among f, alone, leb-false (clause_count c) 64 g)

    at_names : (t : Bool) → are_known names (features_in c) ≡ t → checked t UnknownFeature (checked (nat_le (clause_count c) 64) TooManyClauses (checked (nat_le (rules + clause_count c) 16384) TooMany last)) ≡ Err kind → IsFormFault names rules (FormulaLine c) kind
    at_names true f e = at_few f (nat_le (clause_count c) 64) refl e
    at_names false f e =
        let w : UnknownFeature ≡ kind = cc in
        subst (IsFormFault names rules (FormulaLine c)) w (tt, λ all. both_ways (are_known names (features_in c)) f (each_known names (features_in c) (All-implies (IsAmong names) (λ w. index_or_end names w < length names) (features_in c) there all)))

bad_range : (p : List ℕ) (low high : ℕ) (cs : List (List ℕ)) → (nat_le low high && nat_le high (length cs)) ≡ false → HasBadRange (GroupLine p low high cs)
bad_range p low high cs e = go (and_cases (nat_le low high) (nat_le high (length cs)) e)
  where
    go : (nat_le low high ≡ false) ⊎ (nat_le high (length cs) ≡ false) → (high < low) ⊎ (length cs < high)
    go (inl h) = inl (leb-false low high h)
    go (inr h) = inr (leb-false high (length cs) h)

pub form_fault : (names : List (List ℕ)) (rules : ℕ) (form : Form) (kind : LineFault) → AreApart names → line_at names rules form ≡ Err kind → IsFormFault names rules form kind
form_fault names rules (RootLine r) kind u e = let w : TwoRoots ≡ kind = cc in subst (IsFormFault names rules (RootLine r)) w (λ o. o)
form_fault names rules (MandatoryLine p c) kind u e = children_fault names rules (MandatoryLine p c) p (λ k _. Mandatory k (length names)) true kind u tt refl (λ f. absurd (cc)) (λ h. h) e
form_fault names rules (OptionalLine p c) kind u e = children_fault names rules (OptionalLine p c) p (λ k _. Optional k (length names)) true kind u tt refl (λ f. absurd (cc)) (λ h. h) e
form_fault names rules (AlternativeLine p cs) kind u e = children_fault names rules (AlternativeLine p cs) p Alternative true kind u tt refl (λ f. absurd (cc)) (λ h. h) e
form_fault names rules (OrLine p cs) kind u e = children_fault names rules (OrLine p cs) p Or true kind u tt refl (λ f. absurd (cc)) (λ h. h) e
form_fault names rules (GroupLine p low high cs) kind u e =
    children_fault names rules (GroupLine p low high cs) p (λ k ks. Group k low high ks) (nat_le low high && nat_le high (length cs)) kind u tt refl (bad_range p low high cs) (λ h. h) e
form_fault names rules (RequiresLine a b) kind u e = rule_fault names rules (RequiresLine a b) a b Requires kind u tt refl refl refl (λ h. h) e
form_fault names rules (ExcludesLine a b) kind u e = rule_fault names rules (ExcludesLine a b) a b Excludes kind u tt refl refl refl (λ h. h) e
form_fault names rules (FormulaLine c) kind u e = formula_fault names rules c kind u e

line_fault : (names : List (List ℕ)) (rules : ℕ) (bytes : List ℕ) (form : Form) (kind : LineFault) → AreApart names → form_of bytes ≡ Some form → line_at names rules form ≡ Err kind → IsLineFault names rules bytes kind
line_fault names rules bytes form Syntax u p e = absurd (form_fault names rules form Syntax u e)
line_fault names rules bytes form TwoRoots u p e = (form, form_sound bytes form p, form_fault names rules form TwoRoots u e)
line_fault names rules bytes form UnknownFeature u p e = (form, form_sound bytes form p, form_fault names rules form UnknownFeature u e)
line_fault names rules bytes form TwoParents u p e = (form, form_sound bytes form p, form_fault names rules form TwoParents u e)
line_fault names rules bytes form TooManyClauses u p e = (form, form_sound bytes form p, form_fault names rules form TooManyClauses u e)
line_fault names rules bytes form TooMany u p e = (form, form_sound bytes form p, form_fault names rules form TooMany u e)
line_fault names rules bytes form BadRange u p e = (form, form_sound bytes form p, form_fault names rules form BadRange u e)

no_form : (bytes : List ℕ) → form_of bytes ≡ None → (form : Form) → SpellsForm bytes form → ⊥
no_form bytes e form s = let r : ◌≡◌ {A = Option Form} None (Some form) = sym e ∙ form_complete bytes form s in absurd (cc)

-- A fault in the lines behind others: the lines before it are read, and it is one of the line behind them.
record FaultBehind (number : ℕ) (ls : List (List ℕ)) (names : List (List ℕ)) (rules : ℕ) (fault : Fault) : Type 0 where
  before : List (List ℕ)
  bytes : List ℕ
  after : List (List ℕ)
  kind : LineFault
  read : NamedDiagram
  lines_are : ls ≡ before ++ bytes ∷ after
  fault_is : fault ≡ At (number + length before) kind
  written : IsTrue (not_blank bytes)
  read_is : read_lines number before names rules ≡ Ok read
  here : IsLineFault (names ++ read.names) (rules + sum_by rules_of read.lines) bytes kind

here_fault : (number : ℕ) (bytes : List ℕ) (rest names : List (List ℕ)) (rules : ℕ) (kind : LineFault) → IsTrue (not_blank bytes) → IsLineFault names rules bytes kind → FaultBehind number (bytes ∷ rest) names rules (At number kind)
here_fault number bytes rest names rules kind w h = record {
  before = [];
  bytes = bytes;
  after = rest;
  kind = kind;
  read = record { names = []; lines = [] };
  lines_are = refl;
  fault_is = ap (λ k. At k kind) (omega arith);
  written = w;
  read_is = refl;
  here = subst₂ (λ (ns : List (List ℕ)) (r : ℕ). IsLineFault ns r bytes kind) (sym (append-nil names)) (omega arith) h;
}

number_on : (n : ℕ) (xs : List (List ℕ)) (x : List ℕ) → (n + 1) + length xs ≡ n + length (x ∷ xs)
number_on n xs x = omega arith

fault_after_blank : (number : ℕ) (bytes : List ℕ) (rest names : List (List ℕ)) (rules : ℕ) (fault : Fault) → not_blank bytes ≡ false → FaultBehind (number + 1) rest names rules fault → FaultBehind number (bytes ∷ rest) names rules fault
fault_after_blank number bytes rest names rules fault w f = record {
  before = bytes ∷ f.before;
  bytes = f.bytes;
  after = f.after;
  kind = f.kind;
  read = f.read;
  lines_are = ap (λ xs. bytes ∷ xs) f.lines_are;
  fault_is = f.fault_is ∙ ap (λ k. At k f.kind) (number_on number f.before bytes);
  written = f.written;
  read_is = ap (λ t. cond t (after_form number names rules (form_of bytes) (read_lines (number + 1) f.before)) (read_lines (number + 1) f.before names rules)) w ∙ f.read_is;
  here = f.here;
}

fault_after_line : (number : ℕ) (bytes : List ℕ) (rest names : List (List ℕ)) (rules : ℕ) (fault : Fault) (form : Form) (l : Line) → not_blank bytes ≡ true → form_of bytes ≡ Some form → line_at names rules form ≡ Ok l →
    IsLineOf names rules form l → FaultBehind (number + 1) rest (names ++ new_names form) (rules + rules_in form) fault → FaultBehind number (bytes ∷ rest) names rules fault
fault_after_line number bytes rest names rules fault form l w p q line f = record {
  before = bytes ∷ f.before;
  bytes = f.bytes;
  after = f.after;
  kind = f.kind;
  read = record { names = new_names form ++ f.read.names; lines = l ∷ f.read.lines };
  lines_are = ap (λ xs. bytes ∷ xs) f.lines_are;
  fault_is = f.fault_is ∙ ap (λ k. At k f.kind) (number_on number f.before bytes);
  written = f.written;
  read_is = ap (λ t. cond t (after_form number names rules (form_of bytes) (read_lines (number + 1) f.before)) (read_lines (number + 1) f.before names rules)) w ∙
      (ap (λ o. after_form number names rules o (read_lines (number + 1) f.before)) p ∙
      (ap (λ x. after_line number names rules form x (read_lines (number + 1) f.before)) q ∙ ap (with_line l (new_names form)) f.read_is));
  here = subst₂ (λ (ns : List (List ℕ)) (r : ℕ). IsLineFault ns r f.bytes f.kind) (append_assoc names (new_names form) f.read.names)
      (let c = count_rules l f.read.lines in let d = line.rule in omega (arith, c, d)) f.here;
}

fault_behind : (number : ℕ) (ls : List (List ℕ)) (names : List (List ℕ)) (rules : ℕ) (fault : Fault) → read_lines number ls names rules ≡ Err fault →
    AreApart names → length names ≤ 512 → rules ≤ 16384 → FaultBehind number ls names rules fault
fault_behind number [] names rules fault e u n m = absurd (cc)
fault_behind number (bytes ∷ rest) names rules fault e u n m =
    go (chosen_way (not_blank bytes) (after_form number names rules (form_of bytes) (read_lines (number + 1) rest)) (read_lines (number + 1) rest names rules) (Err fault) e) (λ ns r q. fault_behind (number + 1) rest ns r fault q)
  where
    at_rest : (f : Form) (l : Line) → not_blank bytes ≡ true → form_of bytes ≡ Some f → line_at names rules f ≡ Ok l →
        (x : Result NamedDiagram Fault) → read_lines (number + 1) rest (names ++ new_names f) (rules + rules_in f) ≡ x → with_line l (new_names f) x ≡ Err fault →
        ((ns : List (List ℕ)) (r : ℕ) → read_lines (number + 1) rest ns r ≡ Err fault → AreApart ns → length ns ≤ 512 → r ≤ 16384 → FaultBehind (number + 1) rest ns r fault) → FaultBehind number (bytes ∷ rest) names rules fault
    at_rest f l w p q (Ok d) y e ih = absurd (cc)
    at_rest f l w p q (Err x) y e ih =
        let v : x ≡ fault = cc in
        let line = line_sound names rules f l u n m (some_names bytes f (form_sound bytes f p)) q in
        fault_after_line number bytes rest names rules fault f l w p q line
        (ih (names ++ new_names f) (rules + rules_in f) (y ∙ ap Err v) line.distinct (let few = line.few_names in omega (arith, few, length-append names (new_names f))) line.few_rules)

    at_line : (f : Form) → not_blank bytes ≡ true → form_of bytes ≡ Some f → (x : Result Line LineFault) → line_at names rules f ≡ x →
        after_line number names rules f x (read_lines (number + 1) rest) ≡ Err fault →
        ((ns : List (List ℕ)) (r : ℕ) → read_lines (number + 1) rest ns r ≡ Err fault → AreApart ns → length ns ≤ 512 → r ≤ 16384 → FaultBehind (number + 1) rest ns r fault) → FaultBehind number (bytes ∷ rest) names rules fault
    at_line f w p (Err kind) y e ih =
        let v : At number kind ≡ fault = cc in
        subst (FaultBehind number (bytes ∷ rest) names rules) v (here_fault number bytes rest names rules kind w (line_fault names rules bytes f kind u p y))
    at_line f w p (Ok l) y e ih = at_rest f l w p y (read_lines (number + 1) rest (names ++ new_names f) (rules + rules_in f)) refl e ih

    at_form : not_blank bytes ≡ true → (o : Option Form) → form_of bytes ≡ o → after_form number names rules o (read_lines (number + 1) rest) ≡ Err fault →
        ((ns : List (List ℕ)) (r : ℕ) → read_lines (number + 1) rest ns r ≡ Err fault → AreApart ns → length ns ≤ 512 → r ≤ 16384 → FaultBehind (number + 1) rest ns r fault) → FaultBehind number (bytes ∷ rest) names rules fault
    at_form w None p e ih =
        let v : At number Syntax ≡ fault = cc in
        subst (FaultBehind number (bytes ∷ rest) names rules) v (here_fault number bytes rest names rules Syntax w (no_form bytes p))
    at_form w (Some f) p e ih = at_line f w p (line_at names rules f) refl e ih

    go : ((not_blank bytes ≡ true) × (after_form number names rules (form_of bytes) (read_lines (number + 1) rest) ≡ Err fault)) ⊎ ((not_blank bytes ≡ false) × (read_lines (number + 1) rest names rules ≡ Err fault)) →
        ((ns : List (List ℕ)) (r : ℕ) → read_lines (number + 1) rest ns r ≡ Err fault → AreApart ns → length ns ≤ 512 → r ≤ 16384 → FaultBehind (number + 1) rest ns r fault) → FaultBehind number (bytes ∷ rest) names rules fault
    go (inl h) ih = at_form h.0 (form_of bytes) refl h.1 ih
    go (inr h) ih = fault_after_blank number bytes rest names rules fault h.0 (ih names rules h.1 u n m)

-- The fault of lines from the root line on.
record FaultFrom (number : ℕ) (ls : List (List ℕ)) (fault : Fault) : Type 0 where
  before : List (List ℕ)
  bytes : List ℕ
  after : List (List ℕ)
  kind : LineFault
  lines_are : ls ≡ before ++ bytes ∷ after
  fault_is : fault ≡ At (number + length before) kind
  written : IsTrue (not_blank bytes)
  here : ((filter not_blank before ≡ []) × IsRootFault bytes kind) ⊎
      ((d : NamedDiagram) × AreLinesOf before d × IsLineFault d.names (sum_by rules_of d.lines) bytes kind)

at_root : (number : ℕ) (bytes : List ℕ) (rest : List (List ℕ)) (kind : LineFault) → not_blank bytes ≡ true → IsRootFault bytes kind → FaultFrom number (bytes ∷ rest) (At number kind)
at_root number bytes rest kind w h = record {
  before = [];
  bytes = bytes;
  after = rest;
  kind = kind;
  lines_are = refl;
  fault_is = ap (λ k. At k kind) (omega arith);
  written = w;
  here = inl (refl, h);
}

root_fault_blank : (number : ℕ) (bytes : List ℕ) (rest : List (List ℕ)) (fault : Fault) → not_blank bytes ≡ false → FaultFrom (number + 1) rest fault → FaultFrom number (bytes ∷ rest) fault
root_fault_blank number bytes rest fault w f = record {
  before = bytes ∷ f.before;
  bytes = f.bytes;
  after = f.after;
  kind = f.kind;
  lines_are = ap (λ xs. bytes ∷ xs) f.lines_are;
  fault_is = f.fault_is ∙ ap (λ k. At k f.kind) (number_on number f.before bytes);
  written = f.written;
  here = go f.here;
}
  where
    kept : filter not_blank (bytes ∷ f.before) ≡ filter not_blank f.before
    kept = ap (λ t. cond t (bytes ∷ filter not_blank f.before) (filter not_blank f.before)) w

    go : ((filter not_blank f.before ≡ []) × IsRootFault f.bytes f.kind) ⊎ ((d : NamedDiagram) × AreLinesOf f.before d × IsLineFault d.names (sum_by rules_of d.lines) f.bytes f.kind) →
        ((filter not_blank (bytes ∷ f.before) ≡ []) × IsRootFault f.bytes f.kind) ⊎ ((d : NamedDiagram) × AreLinesOf (bytes ∷ f.before) d × IsLineFault d.names (sum_by rules_of d.lines) f.bytes f.kind)
    go (inl h) = inl (kept ∙ h.0, h.1)
    go (inr h) = inr (h.0, record { named_diagram = h.1.named_diagram; root = h.1.root; others = h.1.others; lines_are = kept ∙ h.1.lines_are; root_is = h.1.root_is; others_are = h.1.others_are }, h.2)

fault_after_root : (number : ℕ) (bytes : List ℕ) (rest : List (List ℕ)) (r : List ℕ) (fault : Fault) → not_blank bytes ≡ true → form_of bytes ≡ Some (RootLine r) → FaultBehind (number + 1) rest (r ∷ []) 0 fault → FaultFrom number (bytes ∷ rest) fault
fault_after_root number bytes rest r fault w p f =
    let d : NamedDiagram = record { names = r ∷ f.read.names; lines = f.read.lines } in
    let read : read_root number (bytes ∷ f.before) ≡ Ok d =
    ap (λ t. cond t (after_root number (form_of bytes) f.before) (read_root (number + 1) f.before)) w ∙ (ap (λ o. after_root number o f.before) p ∙ ap (with_root r) f.read_is) in
    let s = root_sound number (bytes ∷ f.before) d read in
    record {
      before = bytes ∷ f.before;
      bytes = f.bytes;
      after = f.after;
      kind = f.kind;
      lines_are = ap (λ xs. bytes ∷ xs) f.lines_are;
      fault_is = f.fault_is ∙ ap (λ k. At k f.kind) (number_on number f.before bytes);
      written = f.written;
      here = inr (
        d,
        record { named_diagram = s.0; root = s.1.root; others = s.1.others; lines_are = s.1.lines_are; root_is = s.1.root_is; others_are = s.1.others_are },
        subst (λ (k : ℕ). IsLineFault (r ∷ f.read.names) k f.bytes f.kind) (Rattle.std.proofs.Common.zero-add (sum_by rules_of f.read.lines)) f.here,
      );
    }

one_distinct : (r : List ℕ) → AreApart (r ∷ [])
one_distinct r zero zero name a b = refl
one_distinct r zero (suc j) name a b = absurd (cc)
one_distinct r (suc i) j name a b = absurd (cc)

abbrev RootFaults : ℕ → List (List ℕ) → Fault → Type 0
RootFaults number ls fault = ((fault ≡ NoRoot) × (filter not_blank ls ≡ [])) ⊎ FaultFrom number ls fault

root_faults : (number : ℕ) (ls : List (List ℕ)) (fault : Fault) → read_root number ls ≡ Err fault → RootFaults number ls fault
root_faults number [] fault e = let w : NoRoot ≡ fault = cc in inl (sym w, refl)
root_faults number (bytes ∷ rest) fault e =
    go (chosen_way (not_blank bytes) (after_root number (form_of bytes) rest) (read_root (number + 1) rest) (Err fault) e) (λ q. root_faults (number + 1) rest fault q)
  where
    other : (form : Form) → not_blank bytes ≡ true → form_of bytes ≡ Some form → IsOther form → ◌≡◌ {A = Result NamedDiagram Fault} (Err (At number UnknownFeature)) (Err fault) → RootFaults number (bytes ∷ rest) fault
    other form w p o e =
        let v : At number UnknownFeature ≡ fault = cc in
        inr (subst (FaultFrom number (bytes ∷ rest)) v (at_root number bytes rest UnknownFeature w (form, form_sound bytes form p, o)))

    at_rest : (r : List ℕ) → not_blank bytes ≡ true → form_of bytes ≡ Some (RootLine r) → (x : Result NamedDiagram Fault) → read_lines (number + 1) rest (r ∷ []) 0 ≡ x → with_root r x ≡ Err fault → RootFaults number (bytes ∷ rest) fault
    at_rest r w p (Ok d) y e = absurd (cc)
    at_rest r w p (Err x) y e =
        let v : x ≡ fault = cc in
        inr (fault_after_root number bytes rest r fault w p (fault_behind (number + 1) rest (r ∷ []) 0 fault (y ∙ ap Err v) (one_distinct r) (omega arith) (omega arith)))

    at_form : not_blank bytes ≡ true → (o : Option Form) → form_of bytes ≡ o → after_root number o rest ≡ Err fault → RootFaults number (bytes ∷ rest) fault
    at_form w None p e =
        let v : At number Syntax ≡ fault = cc in
        inr (subst (FaultFrom number (bytes ∷ rest)) v (at_root number bytes rest Syntax w (no_form bytes p)))
    at_form w (Some (RootLine r)) p e = at_rest r w p (read_lines (number + 1) rest (r ∷ []) 0) refl e
    at_form w (Some (MandatoryLine a b)) p e = other (MandatoryLine a b) w p tt e
    at_form w (Some (OptionalLine a b)) p e = other (OptionalLine a b) w p tt e
    at_form w (Some (AlternativeLine a b)) p e = other (AlternativeLine a b) w p tt e
    at_form w (Some (OrLine a b)) p e = other (OrLine a b) w p tt e
    at_form w (Some (GroupLine a l h b)) p e = other (GroupLine a l h b) w p tt e
    at_form w (Some (RequiresLine a b)) p e = other (RequiresLine a b) w p tt e
    at_form w (Some (ExcludesLine a b)) p e = other (ExcludesLine a b) w p tt e
    at_form w (Some (FormulaLine c)) p e = other (FormulaLine c) w p tt e

    go : ((not_blank bytes ≡ true) × (after_root number (form_of bytes) rest ≡ Err fault)) ⊎ ((not_blank bytes ≡ false) × (read_root (number + 1) rest ≡ Err fault)) →
        (read_root (number + 1) rest ≡ Err fault → RootFaults (number + 1) rest fault) → RootFaults number (bytes ∷ rest) fault
    go (inl h) ih = at_form h.0 (form_of bytes) refl h.1
    go (inr h) ih = over (ih h.1)
      where
        kept : filter not_blank (bytes ∷ rest) ≡ filter not_blank rest
        kept = ap (λ t. cond t (bytes ∷ filter not_blank rest) (filter not_blank rest)) h.0

        over : RootFaults (number + 1) rest fault → RootFaults number (bytes ∷ rest) fault
        over (inl b) = inl (b.0, kept ∙ b.1)
        over (inr f) = inr (root_fault_blank number bytes rest fault h.0 f)

fault_by_kind : (text : List ℕ) (number : ℕ) (kind : LineFault) → IsFaultAt (lines text) number kind → IsFirstFault text (fault_at number kind)
fault_by_kind text number Syntax f = f
fault_by_kind text number TwoRoots f = f
fault_by_kind text number UnknownFeature f = f
fault_by_kind text number TwoParents f = f
fault_by_kind text number TooManyClauses f = f
fault_by_kind text number TooMany f = f
fault_by_kind text number BadRange f = f

pub first_fault : (text : List ℕ) (fault : Fault) → reading text ≡ Err fault → IsFirstFault text (fault_of fault)
first_fault text fault e = go (root_faults 1 (lines text) fault e)
  where
    go : RootFaults 1 (lines text) fault → IsFirstFault text (fault_of fault)
    go (inl h) = subst (λ (x : Fault). IsFirstFault text (fault_of x)) (sym h.0) h.1
    go (inr f) = subst (λ (x : Fault). IsFirstFault text (fault_of x)) (sym f.fault_is) (fault_by_kind text (1 + length f.before) f.kind (record {
      before = f.before;
      bytes = f.bytes;
      after = f.after;
      lines_are = f.lines_are;
      number_is = omega arith;
      written = f.written;
      fault = f.here;
    }))
