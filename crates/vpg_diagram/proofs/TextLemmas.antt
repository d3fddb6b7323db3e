-- Texts and diagrams.
use Rattle.std.proofs.Common.{◌≡◌, ◌≢◌, ℕ, zero, suc, ◌+◌, ◌-◌, ◌<◌, ◌≤◌, Bool, true, false, cond, nat_lt, List, [], ◌∷◌, ◌++◌, length, map, filter, take, drop, Option, Some, None, Result, Ok, Err, IsTrue, flat_map, sum_by, ◌⊎◌, inl, inr, refl, sym, ap, ap₂, ◌∙◌, subst, subst₂, arith, append_assoc, append-nil, length-append, take-append-drop, length-take, length-drop}
use Rattle.std.specs.List.{AllByRecursion, AllZip}
use Rattle.std.specs.Str.Lines.{lines}
use Rattle.std.proofs.lemmas.Bool.{cases_Bool}
use Rattle.std.proofs.lemmas.List.{nil_from_length, length-take-le}
use Rattle.std.proofs.lemmas.List.Sums.{sum_by-cons}
use Rattle.vpg_diagram.specs.FeatureDiagram.{Line, introduced, StandAfter}
use Rattle.vpg_diagram.specs.DiagramText.{is_nonempty, words, Form, RootLine, MandatoryLine, OptionalLine, AlternativeLine, OrLine, GroupLine, RequiresLine, ExcludesLine, FormulaLine, SpellsForm, NamedDiagram, name_of, named, rules_of, HasFewClauses, IsNamedDiagram, IsTextOf}
use Rattle.vpg_diagram.specs.DiagramReading.{LineFault, Fault, form_of, line_at, new_names, rules_in, with_line, with_root, after_line, after_form, read_lines, after_root, read_root, reading}
use Rattle.vpg_features.specs.Names.{IsFeatureName}
use Rattle.vpg_diagram.proofs.Lists.{All-append}
use Rattle.vpg_diagram.proofs.NameLemmas.{AreApart, apart_from_distinct, distinct_from_apart, each_from_all}
use Rattle.vpg_diagram.proofs.FormLemmas.{form_sound, form_complete}
use Rattle.vpg_diagram.proofs.LineLemmas.{HasSomeNames, IsLineOf, line_sound, IsReadBack, line_complete}

pub chosen_way : {A : Type 0} (b : Bool) (x y z : A) → cond b x y ≡ z → ((b ≡ true) × (x ≡ z)) ⊎ ((b ≡ false) × (y ≡ z))
chosen_way true x y z e = inl (refl, e)
chosen_way false x y z e = inr (refl, e)

pub some_names : (bytes : List ℕ) (f : Form) → SpellsForm bytes f → HasSomeNames f
some_names bytes (RootLine r) h = omega arith
some_names bytes (MandatoryLine p c) h = omega arith
some_names bytes (OptionalLine p c) h = omega arith
some_names bytes (AlternativeLine p cs) h = h.some
some_names bytes (OrLine p cs) h = h.some
some_names bytes (GroupLine p low high cs) h = h.4.some
some_names bytes (RequiresLine a b) h = tt
some_names bytes (ExcludesLine a b) h = tt
some_names bytes (FormulaLine c) h = tt

-- lines that spell the lines of a diagram, behind lines with these names and so many rules
pub record SpellRest (ls : List (List ℕ)) (names : List (List ℕ)) (rules : ℕ) (d : NamedDiagram) : Type 0 where
  pub stands : StandAfter (length names) d.lines
  pub as_many : length d.names ≡ length (flat_map introduced d.lines)
  pub distinct : AreApart (names ++ d.names)
  pub few_names : length names + length d.names ≤ 512
  pub few_rules : rules + sum_by rules_of d.lines ≤ 16384
  pub few_clauses : AllByRecursion HasFewClauses d.lines
  pub spelled : AllZip (λ bytes line. SpellsForm bytes (named (names ++ d.names) line)) (filter (λ line. is_nonempty (words line)) ls) d.lines

AllZip-implies : {A B : Type 0} (R S : A → B → Type 0) (xs : List A) (ys : List B) → ((x : A) (y : B) → R x y → S x y) → AllZip R xs ys → AllZip S xs ys
AllZip-implies R S [] [] f h = tt
AllZip-implies R S [] (y ∷ ys) f h = h
AllZip-implies R S (x ∷ xs) [] f h = h
AllZip-implies R S (x ∷ xs) (y ∷ ys) f h = (f x y h.0, AllZip-implies R S xs ys f h.1)

pub count_rules : (l : Line) (ls : List Line) → sum_by rules_of (l ∷ ls) ≡ rules_of l + sum_by rules_of ls
count_rules l ls = sum_by-cons rules_of l ls

rest_with_line : (bytes : List ℕ) (rest : List (List ℕ)) (names : List (List ℕ)) (rules : ℕ) (f : Form) (l : Line) (d : NamedDiagram) →
    is_nonempty (words bytes) ≡ true → form_of bytes ≡ Some f → IsLineOf names rules f l → SpellRest rest (names ++ new_names f) (rules + rules_in f) d →
    SpellRest (bytes ∷ rest) names rules (record { names = new_names f ++ d.names; lines = l ∷ d.lines })
rest_with_line bytes rest names rules f l d w e line r =
    let new = new_names f in
    let joined : (names ++ new) ++ d.names ≡ names ++ (new ++ d.names) = append_assoc names new d.names in
    record {
      stands = (line.stands, subst (λ (k : ℕ). StandAfter k d.lines) (length-append names new ∙ ap (λ k. length names + k) line.as_many) r.stands);
      as_many = length-append new d.names ∙ (ap₂ (λ a b. a + b) line.as_many r.as_many ∙ sym (length-append (introduced l) (flat_map introduced d.lines)));
      distinct = subst AreApart joined r.distinct;
      few_names = (let x = r.few_names in omega (arith, x, length-append names new, length-append new d.names));
      few_rules = (let x = r.few_rules in omega (arith, x, count_rules l d.lines, line.rule));
      few_clauses = (line.few_clauses, r.few_clauses);
      spelled = subst (λ (xs : List (List ℕ)). AllZip (λ b k. SpellsForm b (named (names ++ (new ++ d.names)) k)) xs (l ∷ d.lines))
          (sym (ap (λ t. cond t (bytes ∷ filter (λ line. is_nonempty (words line)) rest) (filter (λ line. is_nonempty (words line)) rest)) w)) (
            subst (SpellsForm bytes) (sym (line.named_so d.names)) (form_sound bytes f e),
            AllZip-implies (λ b k. SpellsForm b (named ((names ++ new) ++ d.names) k)) (λ b k. SpellsForm b (named (names ++ (new ++ d.names)) k)) (filter (λ line. is_nonempty (words line)) rest) d.lines
                (λ b k h. subst (λ (ns : List (List ℕ)). SpellsForm b (named ns k)) joined h) r.spelled,
          );
    }

form_names : (bytes : List ℕ) (f : Form) → SpellsForm bytes f → AllByRecursion IsFeatureName (new_names f)
form_names bytes (RootLine r) h = (h.1, tt)
form_names bytes (MandatoryLine p c) h = (h.second_name, tt)
form_names bytes (OptionalLine p c) h = (h.second_name, tt)
form_names bytes (AlternativeLine p cs) h = h.member_names
form_names bytes (OrLine p cs) h = h.member_names
form_names bytes (GroupLine p low high cs) h = h.4.member_names
form_names bytes (RequiresLine a b) h = tt
form_names bytes (ExcludesLine a b) h = tt
form_names bytes (FormulaLine c) h = tt

-- the names that are read are feature names
read_names : (number : ℕ) (ls : List (List ℕ)) (names : List (List ℕ)) (rules : ℕ) (d : NamedDiagram) → read_lines number ls names rules ≡ Ok d → AllByRecursion IsFeatureName d.names
read_names number [] names rules d e = let v : record { names = []; lines = [] } ≡ d = cc in subst (λ (x : NamedDiagram). AllByRecursion IsFeatureName x.names) v tt
read_names number (bytes ∷ rest) names rules d e =
    go (chosen_way (is_nonempty (words bytes)) (after_form number names rules (form_of bytes) (read_lines (number + 1) rest)) (read_lines (number + 1) rest names rules) (Ok d) e) (λ ns r q z. read_names (number + 1) rest ns r q z)
  where
    at_rest : (f : Form) (l : Line) → form_of bytes ≡ Some f → (x : Result NamedDiagram Fault) → read_lines (number + 1) rest (names ++ new_names f) (rules + rules_in f) ≡ x → with_line l (new_names f) x ≡ Ok d →
        ((ns : List (List ℕ)) (r : ℕ) (q : NamedDiagram) → read_lines (number + 1) rest ns r ≡ Ok q → AllByRecursion IsFeatureName q.names) → AllByRecursion IsFeatureName d.names
    at_rest f l p (Err x) y e ih = absurd (cc)
    at_rest f l p (Ok q) y e ih =
        let v : record { names = new_names f ++ q.names; lines = l ∷ q.lines } ≡ d = cc in
        subst (λ (x : NamedDiagram). AllByRecursion IsFeatureName x.names) v
        (All-append IsFeatureName (new_names f) q.names (form_names bytes f (form_sound bytes f p)) (ih (names ++ new_names f) (rules + rules_in f) q y))

    at_line : (f : Form) → form_of bytes ≡ Some f → (x : Result Line LineFault) → after_line number names rules f x (read_lines (number + 1) rest) ≡ Ok d →
        ((ns : List (List ℕ)) (r : ℕ) (q : NamedDiagram) → read_lines (number + 1) rest ns r ≡ Ok q → AllByRecursion IsFeatureName q.names) → AllByRecursion IsFeatureName d.names
    at_line f p (Err kind) e ih = absurd (cc)
    at_line f p (Ok l) e ih = at_rest f l p (read_lines (number + 1) rest (names ++ new_names f) (rules + rules_in f)) refl e ih

    at_form : (o : Option Form) → form_of bytes ≡ o → after_form number names rules o (read_lines (number + 1) rest) ≡ Ok d →
        ((ns : List (List ℕ)) (r : ℕ) (q : NamedDiagram) → read_lines (number + 1) rest ns r ≡ Ok q → AllByRecursion IsFeatureName q.names) → AllByRecursion IsFeatureName d.names
    at_form None p e ih = absurd (cc)
    at_form (Some f) p e ih = at_line f p (line_at names rules f) e ih

    go : ((is_nonempty (words bytes) ≡ true) × (after_form number names rules (form_of bytes) (read_lines (number + 1) rest) ≡ Ok d)) ⊎
        ((is_nonempty (words bytes) ≡ false) × (read_lines (number + 1) rest names rules ≡ Ok d)) →
        ((ns : List (List ℕ)) (r : ℕ) (q : NamedDiagram) → read_lines (number + 1) rest ns r ≡ Ok q → AllByRecursion IsFeatureName q.names) → AllByRecursion IsFeatureName d.names
    go (inl h) ih = at_form (form_of bytes) refl h.1 ih
    go (inr h) ih = ih names rules d h.1

pub read_sound : (number : ℕ) (ls : List (List ℕ)) (names : List (List ℕ)) (rules : ℕ) (d : NamedDiagram) → read_lines number ls names rules ≡ Ok d →
    AreApart names → length names ≤ 512 → rules ≤ 16384 → SpellRest ls names rules d
read_sound number [] names rules d e u n m =
    let w : record { names = []; lines = [] } ≡ d = cc in
    subst (SpellRest [] names rules) w (record { stands = tt; as_many = refl; distinct = subst AreApart (sym (append-nil names)) u; few_names = omega arith; few_rules = omega arith; few_clauses = tt; spelled = tt })
read_sound number (bytes ∷ rest) names rules d e u n m =
    go (chosen_way (is_nonempty (words bytes)) (after_form number names rules (form_of bytes) (read_lines (number + 1) rest)) (read_lines (number + 1) rest names rules) (Ok d) e) (λ ns r q. read_sound (number + 1) rest ns r q)
  where
    at_rest : (f : Form) (l : Line) → is_nonempty (words bytes) ≡ true → form_of bytes ≡ Some f → IsLineOf names rules f l →
        (x : Result NamedDiagram Fault) → read_lines (number + 1) rest (names ++ new_names f) (rules + rules_in f) ≡ x → with_line l (new_names f) x ≡ Ok d → ((q : NamedDiagram) → read_lines (number + 1) rest (names ++ new_names f) (rules + rules_in f) ≡ Ok q → SpellRest rest (names ++ new_names f) (rules + rules_in f) q) → SpellRest (bytes ∷ rest) names rules d
    at_rest f l w p line (Ok q) y e ih =
        let v : record { names = new_names f ++ q.names; lines = l ∷ q.lines } ≡ d = cc in
        subst (SpellRest (bytes ∷ rest) names rules) v (rest_with_line bytes rest names rules f l q w p line (ih q y))
    at_rest f l w p line (Err x) y e ih = absurd (cc)

    at_line : (f : Form) → is_nonempty (words bytes) ≡ true → form_of bytes ≡ Some f → (x : Result Line LineFault) → line_at names rules f ≡ x →
        after_line number names rules f x (read_lines (number + 1) rest) ≡ Ok d →
        ((ns : List (List ℕ)) (r : ℕ) (q : NamedDiagram) → read_lines (number + 1) rest ns r ≡ Ok q → AreApart ns → length ns ≤ 512 → r ≤ 16384 → SpellRest rest ns r q) → SpellRest (bytes ∷ rest) names rules d
    at_line f w p (Err x) y e ih = absurd (cc)
    at_line f w p (Ok l) y e ih =
        let line = line_sound names rules f l u n m (some_names bytes f (form_sound bytes f p)) y in
        at_rest f l w p line (read_lines (number + 1) rest (names ++ new_names f) (rules + rules_in f)) refl e
        (λ q z. ih (names ++ new_names f) (rules + rules_in f) q z line.distinct (let few = line.few_names in omega (arith, few, length-append names (new_names f))) line.few_rules)

    at_form : is_nonempty (words bytes) ≡ true → (o : Option Form) → form_of bytes ≡ o → after_form number names rules o (read_lines (number + 1) rest) ≡ Ok d →
        ((ns : List (List ℕ)) (r : ℕ) (q : NamedDiagram) → read_lines (number + 1) rest ns r ≡ Ok q → AreApart ns → length ns ≤ 512 → r ≤ 16384 → SpellRest rest ns r q) → SpellRest (bytes ∷ rest) names rules d
    at_form w None p e ih = absurd (cc)
    at_form w (Some f) p e ih = at_line f w p (line_at names rules f) refl e ih

    go : ((is_nonempty (words bytes) ≡ true) × (after_form number names rules (form_of bytes) (read_lines (number + 1) rest) ≡ Ok d)) ⊎
        ((is_nonempty (words bytes) ≡ false) × (read_lines (number + 1) rest names rules ≡ Ok d)) →
        ((ns : List (List ℕ)) (r : ℕ) (q : NamedDiagram) → read_lines (number + 1) rest ns r ≡ Ok q → AreApart ns → length ns ≤ 512 → r ≤ 16384 → SpellRest rest ns r q) → SpellRest (bytes ∷ rest) names rules d
    go (inl h) ih = at_form h.0 (form_of bytes) refl h.1 ih
    go (inr h) ih =
        let r = ih names rules d h.1 u n m in
        record {
          stands = r.stands;
          as_many = r.as_many;
          distinct = r.distinct;
          few_names = r.few_names;
          few_rules = r.few_rules;
          few_clauses = r.few_clauses;
          spelled = subst (λ (xs : List (List ℕ)). AllZip (λ b k. SpellsForm b (named (names ++ d.names) k)) xs d.lines)
              (sym (ap (λ t. cond t (bytes ∷ filter (λ line. is_nonempty (words line)) rest) (filter (λ line. is_nonempty (words line)) rest)) h.0)) r.spelled;
        }

-- The other way round: what spells the lines of a diagram is read as they are.
AllZip-nil : {A B : Type 0} (R : A → B → Type 0) (ys : List B) → AllZip R [] ys → ys ≡ []
AllZip-nil R [] h = refl
AllZip-nil R (y ∷ ys) h = absurd h

no_names : (names : List (List ℕ)) (ls : List Line) → ls ≡ [] → length names ≡ length (flat_map introduced ls) → names ≡ []
no_names names ls e l = nil_from_length names (l ∙ ap (λ x. length (flat_map introduced x)) e)

read_back : (number : ℕ) (bytes : List ℕ) (names : List (List ℕ)) (rules : ℕ) (f : Form) (l : Line) (new : List (List ℕ)) (d : NamedDiagram) (rest : List (List ℕ) → ℕ → Result NamedDiagram Fault) →
    form_of bytes ≡ Some f → IsReadBack names rules f l new → rest (names ++ new) (rules + rules_of l) ≡ Ok d →
    after_form number names rules (form_of bytes) rest ≡ Ok (record { names = new ++ d.names; lines = l ∷ d.lines })
read_back number bytes names rules f l new d rest e b r =
    ap (λ o. after_form number names rules o rest) e ∙
    (ap (λ x. after_line number names rules f x rest) b.read ∙
    (ap₂ (λ ns k. with_line l ns (rest (names ++ ns) (rules + k))) b.names_are b.rules_are ∙
    ap (with_line l new) r))

pub read_complete : (number : ℕ) (ls : List (List ℕ)) (names : List (List ℕ)) (rules : ℕ) (d : NamedDiagram) → SpellRest ls names rules d →
    read_lines number ls names rules ≡ Ok d
read_complete number [] names rules d s =
    let e : d.lines ≡ [] = AllZip-nil (λ bytes line. SpellsForm bytes (named (names ++ d.names) line)) d.lines s.spelled in
    let n : d.names ≡ [] = no_names d.names d.lines e s.as_many in
    ap Ok (λ i. record { names = sym n i; lines = sym e i })
read_complete number (bytes ∷ rest) names rules d s = go (cases_Bool (is_nonempty (words bytes))) (λ ns r q. read_complete (number + 1) rest ns r q)
  where
    at_lines : is_nonempty (words bytes) ≡ true → (ls : List Line) → d.lines ≡ ls →
        AllZip (λ b line. SpellsForm b (named (names ++ d.names) line)) (bytes ∷ filter (λ line. is_nonempty (words line)) rest) ls →
        ((ns : List (List ℕ)) (r : ℕ) (q : NamedDiagram) → SpellRest rest ns r q → read_lines (number + 1) rest ns r ≡ Ok q) →
        after_form number names rules (form_of bytes) (read_lines (number + 1) rest) ≡ Ok d
    at_lines w [] e z ih = absurd z
    at_lines w (l ∷ ls) e z ih =
        let stands : StandAfter (length names) (l ∷ ls) = subst (StandAfter (length names)) e s.stands in
        let many : length d.names ≡ length (introduced l) + length (flat_map introduced ls) = s.as_many ∙ (ap (λ x. length (flat_map introduced x)) e ∙ length-append (introduced l) (flat_map introduced ls)) in
        let new = take (length (introduced l)) d.names in
        let more = drop (length (introduced l)) d.names in
        let parts : new ++ more ≡ d.names = take-append-drop (length (introduced l)) d.names in
        let new_many : length new ≡ length (introduced l) = length-take-le (length (introduced l)) d.names (omega arith) in
        let more_many : length more ≡ length (flat_map introduced ls) = length-drop (length (introduced l)) d.names ∙ omega arith in
        let distinct : AreApart (names ++ (new ++ more)) = subst (λ (xs : List (List ℕ)). AreApart (names ++ xs)) (sym parts) s.distinct in
        let rules_many : rules + (rules_of l + sum_by rules_of ls) ≤ 16384 = subst (λ (k : ℕ). rules + k ≤ 16384) (ap (sum_by rules_of) e ∙ count_rules l ls) s.few_rules in
        let few : length names + length d.names ≤ 512 = s.few_names in
        let few_clauses : AllByRecursion HasFewClauses (l ∷ ls) = subst (AllByRecursion HasFewClauses) e s.few_clauses in
        let back = line_complete names rules new more distinct (omega (arith, few, new_many, many)) l stands.0 new_many (omega (arith, rules_many)) few_clauses.0 in
        let form : form_of bytes ≡ Some (named (names ++ (new ++ more)) l) = form_complete bytes (named (names ++ (new ++ more)) l) (subst (λ (xs : List (List ℕ)). SpellsForm bytes (named (names ++ xs) l)) (sym parts) z.0) in
        let behind : SpellRest rest (names ++ new) (rules + rules_of l) (record { names = more; lines = ls }) = record {
          stands = subst (λ (k : ℕ). StandAfter k ls) (sym (length-append names new ∙ ap (λ k. length names + k) new_many)) stands.1;
          as_many = more_many;
          distinct = subst AreApart (sym (append_assoc names new more)) distinct;
          few_names = omega (arith, few, length-append names new, new_many, more_many, many);
          few_rules = omega (arith, rules_many);
          few_clauses = few_clauses.1;
          spelled = AllZip-implies (λ b k. SpellsForm b (named (names ++ d.names) k)) (λ b k. SpellsForm b (named ((names ++ new) ++ more) k)) (filter (λ line. is_nonempty (words line)) rest) ls
              (λ b k h. subst (λ (xs : List (List ℕ)). SpellsForm b (named xs k)) (ap (λ x. names ++ x) (sym parts) ∙ sym (append_assoc names new more)) h) z.1;
        } in
        read_back number bytes names rules (named (names ++ (new ++ more)) l) l new (record { names = more; lines = ls }) (read_lines (number + 1) rest) form back
        (ih (names ++ new) (rules + rules_of l) (record { names = more; lines = ls }) behind)
        ∙ ap Ok (λ i. record { names = parts i; lines = sym e i })

    go : (is_nonempty (words bytes) ≡ true) ⊎ (is_nonempty (words bytes) ≡ false) →
        ((ns : List (List ℕ)) (r : ℕ) (q : NamedDiagram) → SpellRest rest ns r q → read_lines (number + 1) rest ns r ≡ Ok q) →
        cond (is_nonempty (words bytes)) (after_form number names rules (form_of bytes) (read_lines (number + 1) rest)) (read_lines (number + 1) rest names rules) ≡ Ok d
    go (inl w) ih =
        ap (λ t. cond t (after_form number names rules (form_of bytes) (read_lines (number + 1) rest)) (read_lines (number + 1) rest names rules)) w ∙
        at_lines w d.lines refl (subst (λ (xs : List (List ℕ)). AllZip (λ b line. SpellsForm b (named (names ++ d.names) line)) xs d.lines)
        (ap (λ t. cond t (bytes ∷ filter (λ line. is_nonempty (words line)) rest) (filter (λ line. is_nonempty (words line)) rest)) w) s.spelled) ih
    go (inr w) ih =
        ap (λ t. cond t (after_form number names rules (form_of bytes) (read_lines (number + 1) rest)) (read_lines (number + 1) rest names rules)) w ∙
        ih names rules d (record {
          stands = s.stands;
          as_many = s.as_many;
          distinct = s.distinct;
          few_names = s.few_names;
          few_rules = s.few_rules;
          few_clauses = s.few_clauses;
          spelled = subst (λ (xs : List (List ℕ)). AllZip (λ b line. SpellsForm b (named (names ++ d.names) line)) xs d.lines)
              (ap (λ t. cond t (bytes ∷ filter (λ line. is_nonempty (words line)) rest) (filter (λ line. is_nonempty (words line)) rest)) w) s.spelled;
        })

-- The root line.
pub record SpellsFrom (ls : List (List ℕ)) (d : NamedDiagram) : Type 0 where
  pub root : List ℕ
  pub others : List (List ℕ)
  pub lines_are : filter (λ line. is_nonempty (words line)) ls ≡ root ∷ others
  pub root_is : SpellsForm root (RootLine (name_of d.names 0))
  pub others_are : AllZip (λ bytes line. SpellsForm bytes (named d.names line)) others d.lines

one_distinct : (r : List ℕ) → AreApart (r ∷ [])
one_distinct r zero zero name a b = refl
one_distinct r zero (suc j) name a b = absurd (cc)
one_distinct r (suc i) j name a b = absurd (cc)

pub root_sound : (number : ℕ) (ls : List (List ℕ)) (d : NamedDiagram) → read_root number ls ≡ Ok d → IsNamedDiagram d × SpellsFrom ls d
root_sound number [] d e = absurd (cc)
root_sound number (bytes ∷ rest) d e =
    go (chosen_way (is_nonempty (words bytes)) (after_root number (form_of bytes) rest) (read_root (number + 1) rest) (Ok d) e) (λ q. root_sound (number + 1) rest d q)
  where
    at_rest : (r : List ℕ) → is_nonempty (words bytes) ≡ true → form_of bytes ≡ Some (RootLine r) → (x : Result NamedDiagram Fault) → read_lines (number + 1) rest (r ∷ []) 0 ≡ x → with_root r x ≡ Ok d → IsNamedDiagram d × SpellsFrom (bytes ∷ rest) d
    at_rest r w p (Err x) y e = absurd (cc)
    at_rest r w p (Ok q) y e =
        let v : record { names = r ∷ q.names; lines = q.lines } ≡ d = cc in
        let s = read_sound (number + 1) rest (r ∷ []) 0 q y (one_distinct r) (omega arith) (omega arith) in
        subst (λ (x : NamedDiagram). IsNamedDiagram x × SpellsFrom (bytes ∷ rest) x) v (
          record {
            diagram = s.stands;
            names = record { each = each_from_all (r ∷ q.names) ((form_sound bytes (RootLine r) p).1, read_names (number + 1) rest (r ∷ []) 0 q y); distinct = distinct_from_apart (r ∷ q.names) s.distinct; few = (let m = s.few_names in omega (arith, m)) };
            each_named = (let m = s.as_many in omega (arith, m));
            few_rules = (let m = s.few_rules in omega (arith, m));
            few_clauses = s.few_clauses;
          },
          record {
            root = bytes;
            others = filter (λ line. is_nonempty (words line)) rest;
            lines_are = ap (λ t. cond t (bytes ∷ filter (λ line. is_nonempty (words line)) rest) (filter (λ line. is_nonempty (words line)) rest)) w;
            root_is = form_sound bytes (RootLine r) p;
            others_are = s.spelled;
          },
        )

    at_form : is_nonempty (words bytes) ≡ true → (o : Option Form) → form_of bytes ≡ o → after_root number o rest ≡ Ok d → IsNamedDiagram d × SpellsFrom (bytes ∷ rest) d
    at_form w None p e = absurd (cc)
    at_form w (Some (RootLine r)) p e = at_rest r w p (read_lines (number + 1) rest (r ∷ []) 0) refl e
    at_form w (Some (MandatoryLine a b)) p e = absurd (cc)
    at_form w (Some (OptionalLine a b)) p e = absurd (cc)
    at_form w (Some (AlternativeLine a b)) p e = absurd (cc)
    at_form w (Some (OrLine a b)) p e = absurd (cc)
    at_form w (Some (GroupLine a l h b)) p e = absurd (cc)
    at_form w (Some (RequiresLine a b)) p e = absurd (cc)
    at_form w (Some (ExcludesLine a b)) p e = absurd (cc)
    at_form w (Some (FormulaLine c)) p e = absurd (cc)

    go : ((is_nonempty (words bytes) ≡ true) × (after_root number (form_of bytes) rest ≡ Ok d)) ⊎ ((is_nonempty (words bytes) ≡ false) × (read_root (number + 1) rest ≡ Ok d)) →
        (read_root (number + 1) rest ≡ Ok d → IsNamedDiagram d × SpellsFrom rest d) → IsNamedDiagram d × SpellsFrom (bytes ∷ rest) d
    go (inl h) ih = at_form h.0 (form_of bytes) refl h.1
    go (inr h) ih =
        let r = ih h.1 in
        (r.0, record { root = r.1.root; others = r.1.others; lines_are = ap (λ t. cond t (bytes ∷ filter (λ line. is_nonempty (words line)) rest) (filter (λ line. is_nonempty (words line)) rest)) h.0 ∙ r.1.lines_are; root_is = r.1.root_is; others_are = r.1.others_are })

-- the first name is the root's
first_name : (names : List (List ℕ)) (n : ℕ) → length names ≡ suc n → (rest : List (List ℕ)) × (names ≡ name_of names 0 ∷ rest) × (length rest ≡ n)
first_name [] n e = absurd (omega arith)
first_name (x ∷ xs) n e = (xs, refl, omega arith)

root_complete : (number : ℕ) (ls : List (List ℕ)) (d : NamedDiagram) → IsNamedDiagram d → SpellsFrom ls d → read_root number ls ≡ Ok d
root_complete number [] d n s = absurd (let w = s.lines_are in cc)
root_complete number (bytes ∷ rest) d n s = go (cases_Bool (is_nonempty (words bytes))) (λ x. root_complete (number + 1) rest d n x)
  where
    go : (is_nonempty (words bytes) ≡ true) ⊎ (is_nonempty (words bytes) ≡ false) → (SpellsFrom rest d → read_root (number + 1) rest ≡ Ok d) →
        cond (is_nonempty (words bytes)) (after_root number (form_of bytes) rest) (read_root (number + 1) rest) ≡ Ok d
    go (inl w) ih =
        let l : bytes ∷ filter (λ line. is_nonempty (words line)) rest ≡ s.root ∷ s.others = sym (ap (λ t. cond t (bytes ∷ filter (λ line. is_nonempty (words line)) rest) (filter (λ line. is_nonempty (words line)) rest)) w) ∙ s.lines_are in
        let b : bytes ≡ s.root = cc in
        let o : filter (λ line. is_nonempty (words line)) rest ≡ s.others = cc in
        let f = first_name d.names (length (flat_map introduced d.lines)) (n.each_named ∙ Rattle.std.proofs.Common.one-add (length (flat_map introduced d.lines))) in
        let r = name_of d.names 0 in
        let q : NamedDiagram = record { names = f.0; lines = d.lines } in
        let form : form_of bytes ≡ Some (RootLine r) = form_complete bytes (RootLine r) (subst (λ (x : List ℕ). SpellsForm x (RootLine r)) (sym b) s.root_is) in
        let behind = read_complete (number + 1) rest (r ∷ []) 0 q (record {
          stands = n.diagram;
          as_many = f.2;
          distinct = subst AreApart f.1 (apart_from_distinct d.names n.names.distinct);
          few_names = (let m = n.names.few in omega (arith, m, ap length f.1));
          few_rules = (let m = n.few_rules in omega (arith, m));
          few_clauses = n.few_clauses;
          spelled = subst₂ (λ (xs : List (List ℕ)) (ns : List (List ℕ)). AllZip (λ x k. SpellsForm x (named ns k)) xs d.lines) (sym o) f.1 s.others_are;
        }) in
        ap (λ t. cond t (after_root number (form_of bytes) rest) (read_root (number + 1) rest)) w ∙
        (ap (λ x. after_root number x rest) form ∙ (ap (with_root r) behind ∙ ap Ok (λ i. record { names = sym f.1 i; lines = d.lines })))
    go (inr w) ih =
        ap (λ t. cond t (after_root number (form_of bytes) rest) (read_root (number + 1) rest)) w ∙
        ih (record { root = s.root; others = s.others; lines_are = sym (ap (λ t. cond t (bytes ∷ filter (λ line. is_nonempty (words line)) rest) (filter (λ line. is_nonempty (words line)) rest)) w) ∙ s.lines_are; root_is = s.root_is; others_are = s.others_are })

pub text_from_reading : (text : List ℕ) (d : NamedDiagram) → reading text ≡ Ok d → IsTextOf text d
text_from_reading text d e =
    let r = root_sound 1 (lines text) d e in
    record { named_diagram = r.0; spells = record { root = r.1.root; others = r.1.others; lines_are = r.1.lines_are; root_is = r.1.root_is; others_are = r.1.others_are } }

pub reading_from_text : (text : List ℕ) (d : NamedDiagram) → IsTextOf text d → reading text ≡ Ok d
reading_from_text text d t =
    root_complete 1 (lines text) d t.named_diagram (record { root = t.spells.root; others = t.spells.others; lines_are = t.spells.lines_are; root_is = t.spells.root_is; others_are = t.spells.others_are })
