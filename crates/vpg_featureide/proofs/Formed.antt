-- Constraints of operands, elements by their indices, and faults of XML.
use Rattle.std.proofs.Common.{◌≡◌, ℕ, zero, suc, ◌+◌, ◌-◌, ◌<◌, ◌≤◌, Bool, true, false, cond, List, [], ◌∷◌, ◌++◌, length, drop, get_or, Some, None, Result, Ok, Err, inl, inr, refl, sym, ap, subst, ◌∙◌, arith}
use Rattle.std.specs.Prelude.{slice_get, slice_index_or}
use Rattle.std.proofs.lemmas.List.{length-map, at_drop_more}
use Rattle.std.proofs.lemmas.Option.{slice_get_past}
use Rattle.vpg_rules.specs.Constraint.{Constraint, Parts}
use Rattle.vpg_rules.specs.View.{parts_of}
use Rattle.vpg_xml.specs.Elements.{Element, Document}
use Rattle.vpg_xml.specs.Faults.{IsAt}
use Rattle.vpg_xml.specs.Nesting.{Spells}
use Rattle.vpg_xml.specs.View.{element_of, elements_of}
use Rattle.vpg_xml.specs.declared.element.Element as code_element
use Rattle.vpg_xml.specs.declared.fault.XmlFault.{XmlFault}
use Rattle.vpg_xml.specs.declared.fault.XmlFault.TheVariants as xml_faults
use Rattle.vpg_featureide.specs.Roles.{Role, Outside}
use Rattle.vpg_featureide.specs.Formulas.{◌>>=◌, alone, several, operands_with, joined_if, formula_with, is_rule, rule_at, rules_with, model_of, IsRefusedAs, IsFaultOf, of_xml}
use Rattle.vpg_featureide.specs.View.{IsRefused}
use Rattle.vpg_featureide.specs.declared.fault.ModelFault.{ModelFault}
use Rattle.vpg_featureide.specs.declared.fault.ModelFault.TheVariants as faults

-- ---- several operands

pub several_few : (at : ℕ) (make : Parts ℕ → Constraint ℕ) (cs : List (Constraint ℕ)) (e : ModelFault) → length cs < 2 →
    ((m : Constraint ℕ → Constraint ℕ) → alone at m cs ≡ Err e) → several at make cs ≡ Err e
several_few at make [] e l h = h (λ c. c)
several_few at make (c ∷ []) e l h = let both : Ok c ≡ Err e = h (λ x. x) in absurd (cc)
several_few at make (c ∷ d ∷ cs) e l h = absurd (omega arith)

pub several_more : (at : ℕ) (make : Parts ℕ → Constraint ℕ) (cs : List (Constraint ℕ)) → 2 ≤ length cs → several at make cs ≡ Ok (make (parts_of cs))
several_more at make [] l = absurd (omega arith)
several_more at make (c ∷ []) l = absurd (omega arith)
several_more at make (c ∷ d ∷ cs) l = refl

-- ---- nesting

pub formula_more : (n : ℕ) (names : List (List ℕ)) (roles : List Role) (d : Document) (i : ℕ) (cs : List (Constraint ℕ)) → (n ≡ 0 → ⊥) →
    operands_with (formula_with (n - 1) names roles d) roles i 0 [] d ≡ Ok cs → formula_with n names roles d i ≡ joined_if names (slice_get d i) cs
formula_more zero names roles d i cs some e = absurd (some refl)
formula_more (suc n) names roles d i cs some e =
    let less : suc n - 1 ≡ n = omega arith in
    let same : operands_with (formula_with n names roles d) roles i 0 [] d ≡ Ok cs = subst (λ (k : ℕ). operands_with (formula_with k names roles d) roles i 0 [] d ≡ Ok cs) less e in
    ap (λ (o : Result (List (Constraint ℕ)) ModelFault). o >>= λ xs. joined_if names (slice_get d i) xs) same

pub element_is : (xs : List code_element.Element) (i : ℕ) (e : code_element.Element) → i < length xs → e ≡ get_or xs i e → slice_get (elements_of xs) i ≡ Some (element_of e)
element_is [] i e l is = absurd (omega arith)
element_is (x ∷ xs) zero e l is = ap (λ (y : code_element.Element). Some (element_of y)) (sym is)
element_is (x ∷ xs) (suc i) e l is = element_is xs i e (omega arith) is

pub no_element : (xs : List code_element.Element) (i : ℕ) → length xs ≤ i → slice_get (elements_of xs) i ≡ None
no_element xs i l = slice_get_past (elements_of xs) i (omega (arith, l, length-map xs element_of))

-- ---- rules

module _ (names : List (List ℕ)) (roles : List Role) (d : Document) where
  abbrev From : ℕ → List (Constraint ℕ) → Document → Result (List (Constraint ℕ)) ModelFault
  From i before es = rules_with names roles d i before es

  pub rules_here : (xs : List code_element.Element) (i : ℕ) (e : code_element.Element) (before : List (Constraint ℕ)) → i < length xs → e ≡ get_or xs i e →
      From i before (elements_of (drop i xs)) ≡ From i before (element_of e ∷ elements_of (drop (i + 1) xs))
  rules_here xs i e before l is =
      at_drop_more (λ ys. From i before (elements_of ys)) xs i e l ∙ ap (λ (y : code_element.Element). From i before (element_of y ∷ elements_of (drop (i + 1) xs))) (sym is)

  pub rules_err : (i : ℕ) (e : Element) (before : List (Constraint ℕ)) (rest : Document) (fault : ModelFault) → is_rule (slice_index_or roles i Outside) ≡ true →
      IsRefused (rule_at names roles d i e) fault → IsRefused (From i before (e ∷ rest)) fault
  rules_err i e before rest fault is (inl m) = inl m
  rules_err i e before rest fault is (inr h) = inr (ap (λ (t : Bool). cond t (rule_at names roles d i e >>= λ c. From (suc i) (before ++ c ∷ []) rest) (From (suc i) before rest)) is
      ∙ ap (λ (o : Result (Constraint ℕ) ModelFault). o >>= λ c. From (suc i) (before ++ c ∷ []) rest) h)

  pub rules_more : (i j : ℕ) (e : Element) (before : List (Constraint ℕ)) (rest : Document) (c : Constraint ℕ) → j ≡ suc i → is_rule (slice_index_or roles i Outside) ≡ true →
      rule_at names roles d i e ≡ Ok c → From i before (e ∷ rest) ≡ From j (before ++ c ∷ []) rest
  rules_more i j e before rest c next is h =
      ap (λ (t : Bool). cond t (rule_at names roles d i e >>= λ x. From (suc i) (before ++ x ∷ []) rest) (From (suc i) before rest)) is
      ∙ (ap (λ (o : Result (Constraint ℕ) ModelFault). o >>= λ x. From (suc i) (before ++ x ∷ []) rest) h ∙ ap (λ (k : ℕ). From k (before ++ c ∷ []) rest) (sym next))

  pub rules_less : (i j : ℕ) (e : Element) (before : List (Constraint ℕ)) (rest : Document) → j ≡ suc i → is_rule (slice_index_or roles i Outside) ≡ false →
      From i before (e ∷ rest) ≡ From j before rest
  rules_less i j e before rest next is =
      ap (λ (t : Bool). cond t (rule_at names roles d i e >>= λ x. From (suc i) (before ++ x ∷ []) rest) (From (suc i) before rest)) is
      ∙ ap (λ (k : ℕ). From k before rest) (sym next)

-- ---- faults

pub refused_along : {A : Type 0} (x y : Result A ModelFault) (fault : ModelFault) → x ≡ y → IsRefused y fault → IsRefused x fault
refused_along x y fault e (inl m) = inl m
refused_along x y fault e (inr h) = inr (e ∙ h)

pub refused_as : (c d : Document) (fault : ModelFault) → c ≡ d → IsRefused (model_of c) fault → IsRefusedAs d fault
refused_as c d fault e (inl m) = inl m
refused_as c d fault e (inr h) = inr (sym (ap model_of e) ∙ h)

pub faulty : (text : List ℕ) (d : Document) (fault : ModelFault) → Spells text d → IsRefused (model_of d) fault → IsFaultOf text fault
faulty text d fault s (inl m) = inl m
faulty text d fault s (inr h) = inr (inr (record { document = d; spells = s; is = h }))

pub xml_fault : (text : List ℕ) (fault : XmlFault) → IsAt text fault → IsFaultOf text (of_xml fault)
xml_fault text xml_faults.Memory h = inl refl
xml_fault text (xml_faults.Declaration at) h = inr (inl (xml_faults.Declaration at, refl, h))
xml_fault text (xml_faults.Character at) h = inr (inl (xml_faults.Character at, refl, h))
xml_fault text (xml_faults.Reference at) h = inr (inl (xml_faults.Reference at, refl, h))
xml_fault text (xml_faults.Markup at) h = inr (inl (xml_faults.Markup at, refl, h))
xml_fault text (xml_faults.Closing at) h = inr (inl (xml_faults.Closing at, refl, h))
xml_fault text (xml_faults.SecondRoot at) h = inr (inl (xml_faults.SecondRoot at, refl, h))
xml_fault text (xml_faults.TooDeep at) h = inr (inl (xml_faults.TooDeep at, refl, h))
xml_fault text (xml_faults.Outside at) h = inr (inl (xml_faults.Outside at, refl, h))
xml_fault text (xml_faults.Unfinished at) h = inr (inl (xml_faults.Unfinished at, refl, h))

pub memory_as : (d : Document) (fault : ModelFault) → fault ≡ faults.Memory → IsRefusedAs d fault
memory_as d fault m = inl m

pub memory_of : (text : List ℕ) (fault : ModelFault) → fault ≡ faults.Memory → IsFaultOf text fault
memory_of text fault m = inl m
