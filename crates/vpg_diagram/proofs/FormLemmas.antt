-- The bytes of a line, and its form.
use Rattle.std.proofs.Common.{◌≡◌, ℕ, Bool, true, false, not, ◌&&◌, ◌==◌, cond, List, [], ◌∷◌, ◌++◌, filter, Option, Some, None, codes, bytes_eq, option_map, ◌⊎◌, inl, inr, refl, sym, ap, ap₂, ◌∙◌, subst, arith, eqb-true, append-nil, append_assoc}
use Rattle.std.specs.List.{AllByRecursion, list_all, slice_split, onto_first}
use Rattle.std.specs.Char.{is_ascii_digit}
use Rattle.std.specs.Str.Parse.{digits_value}
use Rattle.std.proofs.lemmas.Bool.{cases_Bool, both_ways, or_cases}
use Rattle.vpg_rules.specs.Grammar.{NamedRule}
use Rattle.vpg_rules.specs.Reading.{named_rule_at}
use Rattle.vpg_rules.proofs.Levels.{rule_found, rule_again}
use Rattle.vpg_diagram.specs.DiagramText.{is_blank, is_nonempty, words, is_numeral, Form, RootLine, MandatoryLine, OptionalLine, AlternativeLine, OrLine, GroupLine, RequiresLine, ExcludesLine, FormulaLine, HasTwoNames, HasMembers, SpellsForm}
use Rattle.vpg_features.specs.Names.{is_name_byte, IsFeatureName}
use Rattle.vpg_diagram.specs.DiagramReading.{is_feature_name, before_next, at_colon, if_names, plain_form, group_form, form_by_colon, form_by_word, behind_rule, form_of}
use Rattle.vpg_diagram.proofs.RuleWord.{no_rule, rule_parts, parts_rule}
use Rattle.vpg_diagram.proofs.NameLemmas.{eq_same, name_from_test, test_from_name, names_from_tests, tests_from_names}

chosen_way : {A : Type 0} (b : Bool) (x y z : A) → cond b x y ≡ z → ((b ≡ true) × (x ≡ z)) ⊎ ((b ≡ false) × (y ≡ z))
chosen_way true x y z e = inl (refl, e)
chosen_way false x y z e = inr (refl, e)

and_parts : (a b : Bool) → (a && b) ≡ true → (a ≡ true) × (b ≡ true)
and_parts true b e = (refl, e)
and_parts false b e = absurd (cc)

and_both : (a b : Bool) → a ≡ true → b ≡ true → (a && b) ≡ true
and_both a b p q = ap (λ x. x && b) p ∙ q

each_passes : {X : Type 0} (p : X → Bool) (xs : List X) → list_all p xs ≡ true → AllByRecursion (λ x. p x ≡ true) xs
each_passes p [] e = tt
each_passes p (x ∷ xs) e = let r = and_parts (p x) (list_all p xs) e in (r.0, each_passes p xs r.1)

all_pass : {X : Type 0} (p : X → Bool) (xs : List X) → AllByRecursion (λ x. p x ≡ true) xs → list_all p xs ≡ true
all_pass p [] a = refl
all_pass p (x ∷ xs) a = and_both (p x) (list_all p xs) a.0 (all_pass p xs a.1)

names_of_form : (names : List (List ℕ)) (form f : Form) → if_names names form ≡ Some f → (list_all is_feature_name names ≡ true) × (form ≡ f)
names_of_form names form f e = go (chosen_way (list_all is_feature_name names) (Some form) None (Some f) e)
  where
    go : ((list_all is_feature_name names ≡ true) × (Some form ≡ Some f)) ⊎ ((list_all is_feature_name names ≡ false) × (None ≡ Some f)) → (list_all is_feature_name names ≡ true) × (form ≡ f)
    go (inl h) = (h.0, (let w = h.1 in cc))
    go (inr h) = absurd (let w = h.1 in cc)

form_of_names : (names : List (List ℕ)) (form : Form) → list_all is_feature_name names ≡ true → if_names names form ≡ Some form
form_of_names names form e = ap (λ b. cond b (Some form) None) e

two_names : (bytes word a b : List ℕ) (w : List ℕ) → words bytes ≡ w ∷ a ∷ b ∷ [] → bytes_eq w word ≡ true → list_all is_feature_name (a ∷ b ∷ []) ≡ true → HasTwoNames bytes word a b
two_names bytes word a b w e k n =
    let p = each_passes is_feature_name (a ∷ b ∷ []) n in
    record { words_are = e ∙ ap (λ x. x ∷ a ∷ b ∷ []) (eq_same w word k); first_name = name_from_test a p.0; second_name = name_from_test b p.1.0 }

pub plain_sound : (bytes : List ℕ) (ws : List (List ℕ)) (f : Form) → words bytes ≡ ws → plain_form ws ≡ Some f → SpellsForm bytes f
plain_sound bytes [] f e p = absurd (cc)
plain_sound bytes (w ∷ []) f e p = absurd (cc)
plain_sound bytes (w ∷ a ∷ []) f e p = go (chosen_way (bytes_eq w (codes "root")) (if_names (a ∷ []) (RootLine a)) None (Some f) p)
  where
    go : ((bytes_eq w (codes "root") ≡ true) × (if_names (a ∷ []) (RootLine a) ≡ Some f)) ⊎ ((bytes_eq w (codes "root") ≡ false) × (None ≡ Some f)) → SpellsForm bytes f
    go (inl h) =
        let n = names_of_form (a ∷ []) (RootLine a) f h.1 in
        subst (SpellsForm bytes) n.1 (e ∙ ap (λ x. x ∷ a ∷ []) (eq_same w (codes "root") h.0), name_from_test a (each_passes is_feature_name (a ∷ []) n.0).0)
    go (inr h) = absurd (let x = h.1 in cc)
plain_sound bytes (w ∷ a ∷ b ∷ []) f e p = at_mandatory (chosen_way (bytes_eq w (codes "mandatory")) (if_names (a ∷ b ∷ []) (MandatoryLine a b)) _ (Some f) p)
  where
    at_excludes : ((bytes_eq w (codes "excludes") ≡ true) × (if_names (a ∷ b ∷ []) (ExcludesLine a b) ≡ Some f)) ⊎ ((bytes_eq w (codes "excludes") ≡ false) × (None ≡ Some f)) → SpellsForm bytes f
    at_excludes (inl h) = let n = names_of_form (a ∷ b ∷ []) (ExcludesLine a b) f h.1 in subst (SpellsForm bytes) n.1 (two_names bytes (codes "excludes") a b w e h.0 n.0)
    at_excludes (inr h) = absurd (let x = h.1 in cc)

    at_requires : ((bytes_eq w (codes "requires") ≡ true) × (if_names (a ∷ b ∷ []) (RequiresLine a b) ≡ Some f)) ⊎
        ((bytes_eq w (codes "requires") ≡ false) × (cond (bytes_eq w (codes "excludes")) (if_names (a ∷ b ∷ []) (ExcludesLine a b)) None ≡ Some f)) → SpellsForm bytes f
    at_requires (inl h) = let n = names_of_form (a ∷ b ∷ []) (RequiresLine a b) f h.1 in subst (SpellsForm bytes) n.1 (two_names bytes (codes "requires") a b w e h.0 n.0)
    at_requires (inr h) = at_excludes (chosen_way (bytes_eq w (codes "excludes")) (if_names (a ∷ b ∷ []) (ExcludesLine a b)) None (Some f) h.1)

    at_optional : ((bytes_eq w (codes "optional") ≡ true) × (if_names (a ∷ b ∷ []) (OptionalLine a b) ≡ Some f)) ⊎
        ((bytes_eq w (codes "optional") ≡ false) × (cond (bytes_eq w (codes "requires")) (if_names (a ∷ b ∷ []) (RequiresLine a b)) (cond (bytes_eq w (codes "excludes")) (if_names (a ∷ b ∷ []) (ExcludesLine a b)) None) ≡ Some f)) → SpellsForm bytes f
    at_optional (inl h) = let n = names_of_form (a ∷ b ∷ []) (OptionalLine a b) f h.1 in subst (SpellsForm bytes) n.1 (two_names bytes (codes "optional") a b w e h.0 n.0)
    at_optional (inr h) = at_requires (chosen_way (bytes_eq w (codes "requires")) (if_names (a ∷ b ∷ []) (RequiresLine a b)) (cond (bytes_eq w (codes "excludes")) (if_names (a ∷ b ∷ []) (ExcludesLine a b)) None) (Some f) h.1)

    at_mandatory : ((bytes_eq w (codes "mandatory") ≡ true) × (if_names (a ∷ b ∷ []) (MandatoryLine a b) ≡ Some f)) ⊎
        ((bytes_eq w (codes "mandatory") ≡ false) × (cond (bytes_eq w (codes "optional")) (if_names (a ∷ b ∷ []) (OptionalLine a b)) (cond (bytes_eq w (codes "requires")) (if_names (a ∷ b ∷ []) (RequiresLine a b)) (cond (bytes_eq w (codes "excludes")) (if_names (a ∷ b ∷ []) (ExcludesLine a b)) None)) ≡ Some f)) → SpellsForm bytes f
    at_mandatory (inl h) = let n = names_of_form (a ∷ b ∷ []) (MandatoryLine a b) f h.1 in subst (SpellsForm bytes) n.1 (two_names bytes (codes "mandatory") a b w e h.0 n.0)
    at_mandatory (inr h) = at_optional (chosen_way (bytes_eq w (codes "optional")) (if_names (a ∷ b ∷ []) (OptionalLine a b)) (cond (bytes_eq w (codes "requires")) (if_names (a ∷ b ∷ []) (RequiresLine a b)) (cond (bytes_eq w (codes "excludes")) (if_names (a ∷ b ∷ []) (ExcludesLine a b)) None)) (Some f) h.1)
plain_sound bytes (w ∷ a ∷ b ∷ x ∷ xs) f e p = absurd (cc)

-- the parts round the first colon
colon_parts : (bytes front back : List ℕ) → at_colon bytes ≡ Some (front, back) → bytes ≡ front ++ 58 ∷ back
colon_parts [] front back e = absurd (cc)
colon_parts (b ∷ bs) front back e = go (chosen_way (b == 58) (Some ([], bs)) (before_next b (at_colon bs)) (Some (front, back)) e) (λ f r q. colon_parts bs f r q)
  where
    deeper : (o : Option (List ℕ × List ℕ)) → at_colon bs ≡ o → before_next b o ≡ Some (front, back) → ((f r : List ℕ) → at_colon bs ≡ Some (f, r) → bs ≡ f ++ 58 ∷ r) → b ∷ bs ≡ front ++ 58 ∷ back
    deeper None q d ih = absurd (cc)
    deeper (Some p) q d ih =
        let pr : ◌≡◌ {A = List ℕ × List ℕ} (b ∷ p.0, p.1) (front, back) = cc in
        let f : b ∷ p.0 ≡ front = ap (λ (x : List ℕ × List ℕ). x.0) pr in
        let r : p.1 ≡ back = ap (λ (x : List ℕ × List ℕ). x.1) pr in
        ap (λ xs. b ∷ xs) (ih p.0 p.1 q) ∙ ap₂ (λ xs ys. xs ++ 58 ∷ ys) f r

    go : (((b == 58) ≡ true) × (◌≡◌ {A = Option (List ℕ × List ℕ)} (Some ([], bs)) (Some (front, back)))) ⊎ (((b == 58) ≡ false) × (before_next b (at_colon bs) ≡ Some (front, back))) → ((f r : List ℕ) → at_colon bs ≡ Some (f, r) → bs ≡ f ++ 58 ∷ r) → b ∷ bs ≡ front ++ 58 ∷ back
    go (inl h) ih =
        let w : ◌≡◌ {A = Option (List ℕ × List ℕ)} (Some ([], bs)) (Some (front, back)) = h.1 in
        let pr : ◌≡◌ {A = List ℕ × List ℕ} ([], bs) (front, back) = cc in
        let f : [] ≡ front = ap (λ (x : List ℕ × List ℕ). x.0) pr in
        let r : bs ≡ back = ap (λ (x : List ℕ × List ℕ). x.1) pr in
        ap₂ (λ x xs. x ∷ xs) (eqb-true b 58 h.0) r ∙ ap (λ xs. xs ++ 58 ∷ back) f
    go (inr h) ih = deeper (at_colon bs) refl h.1 ih

members_from : (bytes front back : List ℕ) (w word p c : List ℕ) (mid : List (List ℕ)) (cs : List (List ℕ)) → bytes ≡ front ++ 58 ∷ back → words front ≡ w ∷ p ∷ mid → words back ≡ c ∷ cs →
    bytes_eq w word ≡ true → list_all is_feature_name (p ∷ c ∷ cs) ≡ true → HasMembers bytes (word ∷ p ∷ mid) p (c ∷ cs)
members_from bytes front back w word p c mid cs b h m k n =
    let a = each_passes is_feature_name (p ∷ c ∷ cs) n in
    record { front = front; back = back; bytes_are = b; head_is = h ∙ ap (λ x. x ∷ p ∷ mid) (eq_same w word k); members_are = m; parent_name = name_from_test p a.0; some = omega arith; member_names = names_from_tests (c ∷ cs) a.1 }

group_sound : (bytes front back : List ℕ) (head members : List (List ℕ)) (f : Form) → bytes ≡ front ++ 58 ∷ back → words front ≡ head → words back ≡ members → group_form head members ≡ Some f → SpellsForm bytes f
group_sound bytes front back head [] f b h m e = absurd (cc)
group_sound bytes front back [] (c ∷ cs) f b h m e = absurd (cc)
group_sound bytes front back (w ∷ []) (c ∷ cs) f b h m e = absurd (cc)
group_sound bytes front back (w ∷ p ∷ []) (c ∷ cs) f b h m e =
    at_alternative (chosen_way (bytes_eq w (codes "alternative")) (if_names (p ∷ c ∷ cs) (AlternativeLine p (c ∷ cs))) (cond (bytes_eq w (codes "or")) (if_names (p ∷ c ∷ cs) (OrLine p (c ∷ cs))) None) (Some f) e)
  where
    at_or : ((bytes_eq w (codes "or") ≡ true) × (if_names (p ∷ c ∷ cs) (OrLine p (c ∷ cs)) ≡ Some f)) ⊎ ((bytes_eq w (codes "or") ≡ false) × (None ≡ Some f)) → SpellsForm bytes f
    at_or (inl k) = let n = names_of_form (p ∷ c ∷ cs) (OrLine p (c ∷ cs)) f k.1 in subst (SpellsForm bytes) n.1 (members_from bytes front back w (codes "or") p c [] cs b h m k.0 n.0)
    at_or (inr k) = absurd (let x = k.1 in cc)

    at_alternative : ((bytes_eq w (codes "alternative") ≡ true) × (if_names (p ∷ c ∷ cs) (AlternativeLine p (c ∷ cs)) ≡ Some f)) ⊎
        ((bytes_eq w (codes "alternative") ≡ false) × (cond (bytes_eq w (codes "or")) (if_names (p ∷ c ∷ cs) (OrLine p (c ∷ cs))) None ≡ Some f)) → SpellsForm bytes f
    at_alternative (inl k) = let n = names_of_form (p ∷ c ∷ cs) (AlternativeLine p (c ∷ cs)) f k.1 in subst (SpellsForm bytes) n.1 (members_from bytes front back w (codes "alternative") p c [] cs b h m k.0 n.0)
    at_alternative (inr k) = at_or (chosen_way (bytes_eq w (codes "or")) (if_names (p ∷ c ∷ cs) (OrLine p (c ∷ cs))) None (Some f) k.1)
group_sound bytes front back (w ∷ p ∷ i ∷ []) (c ∷ cs) f b h m e = absurd (cc)
group_sound bytes front back (w ∷ p ∷ i ∷ j ∷ []) (c ∷ cs) f b h m e =
    go (chosen_way (bytes_eq w (codes "group") && is_numeral i && is_numeral j) (if_names (p ∷ c ∷ cs) (GroupLine p (digits_value 10 i) (digits_value 10 j) (c ∷ cs))) None (Some f) e)
  where
    go : (((bytes_eq w (codes "group") && is_numeral i && is_numeral j) ≡ true) × (if_names (p ∷ c ∷ cs) (GroupLine p (digits_value 10 i) (digits_value 10 j) (c ∷ cs)) ≡ Some f)) ⊎
        (((bytes_eq w (codes "group") && is_numeral i && is_numeral j) ≡ false) × (None ≡ Some f)) → SpellsForm bytes f
    go (inl k) =
        let n = names_of_form (p ∷ c ∷ cs) (GroupLine p (digits_value 10 i) (digits_value 10 j) (c ∷ cs)) f k.1 in
        let x = and_parts (bytes_eq w (codes "group") && is_numeral i) (is_numeral j) k.0 in
        let y = and_parts (bytes_eq w (codes "group")) (is_numeral i) x.0 in
        subst (SpellsForm bytes) n.1 (i, j, record { numeral = y.1; value = refl }, record { numeral = x.1; value = refl }, members_from bytes front back w (codes "group") p c (i ∷ j ∷ []) cs b h m y.0 n.0)
    go (inr k) = absurd (let x = k.1 in cc)
group_sound bytes front back (w ∷ p ∷ i ∷ j ∷ x ∷ xs) (c ∷ cs) f b h m e = absurd (cc)

-- what is read of a line is what it spells
pub form_sound : (bytes : List ℕ) (f : Form) → form_of bytes ≡ Some f → SpellsForm bytes f
form_sound bytes f e = by_word (behind_rule bytes) refl e
  where
    go : (o : Option (List ℕ × List ℕ)) → at_colon bytes ≡ o → form_by_colon bytes o ≡ Some f → SpellsForm bytes f
    go None q e = plain_sound bytes (words bytes) f refl e
    go (Some p) q e = group_sound bytes p.0 p.1 (words p.0) (words p.1) f (colon_parts bytes p.0 p.1 q) refl refl e

    in_rule : (text : List ℕ) → behind_rule bytes ≡ Some text → (o : Option NamedRule) → named_rule_at text ≡ o → option_map FormulaLine o ≡ Some f → SpellsForm bytes f
    in_rule text w None r e = absurd (cc)
    in_rule text w (Some c) r e =
        let is : FormulaLine c ≡ f = cc in
        let p = rule_parts bytes text w in
        subst (SpellsForm bytes) is (record { front = p.front; blank = p.blank; text = text; bytes_are = p.bytes_are; front_blank = p.front_blank; is_one = p.is_one; rule = rule_found text c r })

    by_word : (o : Option (List ℕ)) → behind_rule bytes ≡ o → form_by_word bytes o ≡ Some f → SpellsForm bytes f
    by_word None w e = go (at_colon bytes) refl e
    by_word (Some text) w e = in_rule text w (named_rule_at text) refl e

-- No colon.
abbrev not_colon : ℕ → Bool
not_colon b = not (b == 58)

NoColon : List ℕ → Type 0
NoColon bytes = AllByRecursion (λ b. not_colon b ≡ true) bytes

blank_no_colon : (b : ℕ) → is_blank b ≡ true → not_colon b ≡ true
blank_no_colon b e = go (or_cases (b == 32) (b == 9) e)
  where
    go : ((b == 32) ≡ true) ⊎ ((b == 9) ≡ true) → not_colon b ≡ true
    go (inl h) = ap not_colon (eqb-true b 32 h)
    go (inr h) = ap not_colon (eqb-true b 9 h)

-- a part that is no word is empty
words_to_parts : (parts : List (List ℕ)) → AllByRecursion NoColon (filter is_nonempty parts) → AllByRecursion NoColon parts
unfolding NoColon
words_to_parts [] a = tt
words_to_parts ([] ∷ ps) a = (tt, words_to_parts ps a)
words_to_parts ((x ∷ xs) ∷ ps) a = (a.0, words_to_parts ps a.1)

parts_to_bytes : (bytes : List ℕ) → AllByRecursion NoColon (slice_split is_blank bytes) → NoColon bytes
unfolding NoColon
parts_to_bytes [] a = tt
parts_to_bytes (b ∷ bs) a = go (cases_Bool (is_blank b)) (parts_to_bytes bs)
  where
    onto : (parts : List (List ℕ)) → AllByRecursion NoColon (onto_first b parts) → (not_colon b ≡ true) × AllByRecursion NoColon parts
    onto [] a = (a.0.0, tt)
    onto (p ∷ ps) a = (a.0.0, (a.0.1, a.1))

    go : (is_blank b ≡ true) ⊎ (is_blank b ≡ false) → (AllByRecursion NoColon (slice_split is_blank bs) → AllByRecursion (λ b. not_colon b ≡ true) bs) → AllByRecursion (λ b. not_colon b ≡ true) (b ∷ bs)
    go (inl h) f =
        let parts = subst (AllByRecursion NoColon) (ap (λ t. cond t ([] ∷ slice_split is_blank bs) (onto_first b (slice_split is_blank bs))) h) a in
        (blank_no_colon b h, f parts.1)
    go (inr h) f =
        let parts = subst (AllByRecursion NoColon) (ap (λ t. cond t ([] ∷ slice_split is_blank bs) (onto_first b (slice_split is_blank bs))) h) a in
        let r = onto (slice_split is_blank bs) parts in
        (r.0, f r.1)

words_no_colon : (bytes : List ℕ) → AllByRecursion NoColon (words bytes) → NoColon bytes
words_no_colon bytes a = parts_to_bytes bytes (words_to_parts (slice_split is_blank bytes) a)

no_colon_found : (bytes : List ℕ) → NoColon bytes → at_colon bytes ≡ None
unfolding NoColon
no_colon_found [] a = refl
no_colon_found (b ∷ bs) a =
    let f : (b == 58) ≡ false = Rattle.std.proofs.lemmas.Bool.not-true (b == 58) a.0 in
    ap (λ t. cond t (Some ([], bs)) (before_next b (at_colon bs))) f ∙ ap (before_next b) (no_colon_found bs a.1)

first_colon : (front back : List ℕ) → NoColon front → at_colon (front ++ 58 ∷ back) ≡ Some (front, back)
unfolding NoColon
first_colon [] back a = refl
first_colon (b ∷ bs) back a =
    let f : (b == 58) ≡ false = Rattle.std.proofs.lemmas.Bool.not-true (b == 58) a.0 in
    ap (λ t. cond t (Some ([], bs ++ 58 ∷ back)) (before_next b (at_colon (bs ++ 58 ∷ back)))) f ∙ ap (before_next b) (first_colon bs back a.1)

byte_no_colon : (p : ℕ → Bool) → p 58 ≡ false → (b : ℕ) → p b ≡ true → not_colon b ≡ true
byte_no_colon p f b t = go (cases_Bool (b == 58))
  where
    go : ((b == 58) ≡ true) ⊎ ((b == 58) ≡ false) → not_colon b ≡ true
    go (inl h) = absurd (both_ways (p 58) f (ap p (sym (eqb-true b 58 h)) ∙ t))
    go (inr h) = ap not h

no_colon_by : (p : ℕ → Bool) → p 58 ≡ false → (bytes : List ℕ) → list_all p bytes ≡ true → NoColon bytes
unfolding NoColon
no_colon_by p f [] e = tt
no_colon_by p f (b ∷ bs) e = let r = and_parts (p b) (list_all p bs) e in (byte_no_colon p f b r.0, no_colon_by p f bs r.1)

name_no_colon : (w : List ℕ) → IsFeatureName w → NoColon w
name_no_colon w n = no_colon_by is_name_byte refl w n.bytes

numeral_no_colon : (w : List ℕ) → is_numeral w ≡ true → NoColon w
numeral_no_colon w e = no_colon_by is_ascii_digit refl w (and_parts (is_nonempty w) (list_all is_ascii_digit w) e).1

word_no_colon : (w : List ℕ) → list_all not_colon w ≡ true → NoColon w
word_no_colon w e = no_colon_by not_colon refl w e

-- a line with another word first has no rule
other_line : (bytes word : List ℕ) (ws : List (List ℕ)) → words bytes ≡ word ∷ ws → bytes_eq word (codes "rule") ≡ false → form_of bytes ≡ form_by_colon bytes (at_colon bytes)
other_line bytes word ws is other = ap (form_by_word bytes) (ap behind_rule (sym (append-nil bytes)) ∙ no_rule bytes [] word ws tt is other)

two_complete : (bytes word a b : List ℕ) → list_all not_colon word ≡ true → bytes_eq word (codes "rule") ≡ false → HasTwoNames bytes word a b → form_of bytes ≡ plain_form (word ∷ a ∷ b ∷ [])
two_complete bytes word a b w other h =
    let nc = words_no_colon bytes (subst (AllByRecursion NoColon) (sym h.words_are) (word_no_colon word w, (name_no_colon a h.first_name, (name_no_colon b h.second_name, tt)))) in
    other_line bytes word (a ∷ b ∷ []) h.words_are other ∙ (ap (form_by_colon bytes) (no_colon_found bytes nc) ∙ ap plain_form h.words_are)

two_pass : (a b bytes word : List ℕ) → HasTwoNames bytes word a b → list_all is_feature_name (a ∷ b ∷ []) ≡ true
two_pass a b bytes word h = all_pass is_feature_name (a ∷ b ∷ []) (test_from_name a h.first_name, (test_from_name b h.second_name, tt))

members_complete : (bytes word : List ℕ) (head : List (List ℕ)) (p : List ℕ) (cs : List (List ℕ)) → AllByRecursion NoColon (word ∷ head) → bytes_eq word (codes "rule") ≡ false → HasMembers bytes (word ∷ head) p cs → form_of bytes ≡ group_form (word ∷ head) cs
members_complete bytes word head p cs a other h =
    let nc = words_no_colon h.front (subst (AllByRecursion NoColon) (sym h.head_is) a) in
    ap form_of h.bytes_are ∙ (ap (form_by_word (h.front ++ 58 ∷ h.back)) (no_rule h.front (58 ∷ h.back) word head refl h.head_is other) ∙ ap (form_by_colon (h.front ++ 58 ∷ h.back)) (first_colon h.front h.back nc) ∙ ap₂ group_form h.head_is h.members_are)

members_pass : (bytes : List ℕ) (head : List (List ℕ)) (p : List ℕ) (cs : List (List ℕ)) → HasMembers bytes head p cs → list_all is_feature_name (p ∷ cs) ≡ true
members_pass bytes head p cs h = all_pass is_feature_name (p ∷ cs) (test_from_name p h.parent_name, tests_from_names cs h.member_names)

-- what a line spells is read of it
pub form_complete : (bytes : List ℕ) (f : Form) → SpellsForm bytes f → form_of bytes ≡ Some f
form_complete bytes (RootLine r) h =
    let nc = words_no_colon bytes (subst (AllByRecursion NoColon) (sym h.0) (word_no_colon (codes "root") refl, (name_no_colon r h.1, tt))) in
    other_line bytes (codes "root") (r ∷ []) h.0 refl ∙ ap (form_by_colon bytes) (no_colon_found bytes nc) ∙ (ap plain_form h.0 ∙ form_of_names (r ∷ []) (RootLine r) (all_pass is_feature_name (r ∷ []) (test_from_name r h.1, tt)))
form_complete bytes (MandatoryLine p c) h = two_complete bytes (codes "mandatory") p c refl refl h ∙ form_of_names (p ∷ c ∷ []) (MandatoryLine p c) (two_pass p c bytes (codes "mandatory") h)
form_complete bytes (OptionalLine p c) h = two_complete bytes (codes "optional") p c refl refl h ∙ form_of_names (p ∷ c ∷ []) (OptionalLine p c) (two_pass p c bytes (codes "optional") h)
form_complete bytes (RequiresLine p c) h = two_complete bytes (codes "requires") p c refl refl h ∙ form_of_names (p ∷ c ∷ []) (RequiresLine p c) (two_pass p c bytes (codes "requires") h)
form_complete bytes (ExcludesLine p c) h = two_complete bytes (codes "excludes") p c refl refl h ∙ form_of_names (p ∷ c ∷ []) (ExcludesLine p c) (two_pass p c bytes (codes "excludes") h)
form_complete bytes (AlternativeLine p []) h = absurd (omega (arith, h.some))
form_complete bytes (AlternativeLine p (c ∷ cs)) h =
    members_complete bytes (codes "alternative") (p ∷ []) p (c ∷ cs) (word_no_colon (codes "alternative") refl, (name_no_colon p h.parent_name, tt)) refl h ∙
    form_of_names (p ∷ c ∷ cs) (AlternativeLine p (c ∷ cs)) (members_pass bytes (codes "alternative" ∷ p ∷ []) p (c ∷ cs) h)
form_complete bytes (OrLine p []) h = absurd (omega (arith, h.some))
form_complete bytes (OrLine p (c ∷ cs)) h =
    members_complete bytes (codes "or") (p ∷ []) p (c ∷ cs) (word_no_colon (codes "or") refl, (name_no_colon p h.parent_name, tt)) refl h ∙
    form_of_names (p ∷ c ∷ cs) (OrLine p (c ∷ cs)) (members_pass bytes (codes "or" ∷ p ∷ []) p (c ∷ cs) h)
form_complete bytes (GroupLine p low high []) h = absurd (omega (arith, h.4.some))
form_complete bytes (GroupLine p low high (c ∷ cs)) h =
    let i = h.0 in
    let j = h.1 in
    members_complete bytes (codes "group") (p ∷ i ∷ j ∷ []) p (c ∷ cs) (word_no_colon (codes "group") refl, (name_no_colon p h.4.parent_name, (numeral_no_colon i h.2.numeral, (numeral_no_colon j h.3.numeral, tt)))) refl h.4 ∙
    (ap (λ b. cond b (if_names (p ∷ c ∷ cs) (GroupLine p (digits_value 10 i) (digits_value 10 j) (c ∷ cs))) None) (and_both (is_numeral i) (is_numeral j) h.2.numeral h.3.numeral) ∙
    (form_of_names (p ∷ c ∷ cs) (GroupLine p (digits_value 10 i) (digits_value 10 j) (c ∷ cs)) (members_pass bytes (codes "group" ∷ p ∷ i ∷ j ∷ []) p (c ∷ cs) h.4) ∙
    ap₂ (λ x y. Some (GroupLine p x y (c ∷ cs))) h.2.value h.3.value))
form_complete bytes (FormulaLine c) h =
    ap (form_by_word bytes) (ap behind_rule (h.bytes_are ∙ append_assoc h.front (codes "rule") (h.blank ∷ h.text)) ∙ parts_rule h.front h.text h.blank h.front_blank h.is_one)
    ∙ ap (option_map FormulaLine) (rule_again h.text c h.rule)
