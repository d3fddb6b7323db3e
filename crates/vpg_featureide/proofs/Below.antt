-- Constraints of a model name its features.
use Rattle.std.proofs.Common.{◌≡◌, ℕ, zero, suc, ◌<◌, Bool, true, false, cond, List, [], ◌∷◌, ◌++◌, length, take, drop, Option, Some, None, Result, Ok, Err, refl, subst}
use Rattle.std.specs.Prelude.{slice_get, slice_index_or, bytes_eq, codes, nat_le}
use Rattle.std.specs.List.{AllByRecursion, list_all}
use Rattle.std.proofs.lemmas.List.Quantifiers.{position-Some}
use Rattle.vpg_features.specs.Names.{index_of}
use Rattle.vpg_rules.specs.Constraint.{Constraint, Parts, feature, negation, all, any, implication, equivalence, IsBelow, AreBelow}
use Rattle.vpg_rules.specs.View.{parts_of}
use Rattle.vpg_tree.specs.Laws.{open_signs}
use Rattle.vpg_xml.specs.Elements.{Element, Document}
use Rattle.vpg_xml.specs.Tokens.{is_blank}
use Rattle.vpg_featureide.specs.Roles.{Role, Outside}
use Rattle.vpg_featureide.specs.Model.{Seen, nothing, seen_with}
use Rattle.vpg_featureide.specs.Formulas.{◌>>=◌, is_operand, operands_with, after_blanks, word_len, feature_in, known, variable, alone, several, pair, joined, joined_if, formula_with, shallow, is_rule, rule_at, rules_with, FeatureModel, model_with, with_constraints, model_of}
use Rattle.vpg_featureide.specs.declared.fault.ModelFault.{ModelFault}
use Rattle.vpg_featureide.specs.declared.fault.ModelFault.TheVariants as faults

abbrev Read : Type 0 → Type 0
Read A = Result A ModelFault

bind_ok : {A B : Type 0} (o : Read A) (f : A → Read B) (y : B) → (o >>= f) ≡ Ok y → (x : A) × (o ≡ Ok x) × (f x ≡ Ok y)
bind_ok (Ok x) f y e = (x, refl, e)
bind_ok (Err a) f y e = absurd (cc)

ok_is : {A : Type 0} (x y : A) → (let r : Read A = Ok x in r ≡ Ok y) → x ≡ y
ok_is x y e = cc

module _ (names : List (List ℕ)) where
  abbrev Below : Constraint ℕ → Type 0
  Below c = IsBelow (length names) c

  abbrev AllBelow : List (Constraint ℕ) → Type 0
  AllBelow cs = AllByRecursion Below cs

  parts_below : (cs : List (Constraint ℕ)) → AllBelow cs → AreBelow (length names) (parts_of cs)
  parts_below [] h = tt
  parts_below (c ∷ cs) h = (h.0, parts_below cs h.1)

  more_below : (cs : List (Constraint ℕ)) (c : Constraint ℕ) → AllBelow cs → Below c → AllBelow (cs ++ c ∷ [])
  more_below [] c h k = (k, tt)
  more_below (x ∷ cs) c h k = (h.0, more_below cs c h.1 k)

  known_below : (at : ℕ) (o : Option ℕ) (c : Constraint ℕ) → ((f : ℕ) → o ≡ Some f → f < length names) → known at o ≡ Ok c → Below c
  known_below at None c h e = absurd (cc)
  known_below at (Some f) c h e = subst Below (ok_is (feature f) c e) (h f refl)

  in_text : (text : List ℕ) (t : Bool) (word : List ℕ) (f : ℕ) → cond t (index_of names word) None ≡ Some f → f < length names
  in_text text false word f e = absurd (cc)
  in_text text true word f e = (position-Some (λ n. bytes_eq word n) names f [] e).0

  variable_below : (e : Element) (cs : List (Constraint ℕ)) (c : Constraint ℕ) → variable names e cs ≡ Ok c → Below c
  variable_below e [] c h =
      let text : List ℕ = after_blanks e.text in
      known_below e.at (feature_in names text) c (λ f k. in_text text (list_all is_blank (drop (word_len text) text)) (take (word_len text) text) f k) h
  variable_below e (x ∷ cs) c h = absurd (cc)

  alone_below : (at : ℕ) (make : Constraint ℕ → Constraint ℕ) (cs : List (Constraint ℕ)) (c : Constraint ℕ) → ((x : Constraint ℕ) → Below x → Below (make x)) → AllBelow cs → alone at make cs ≡ Ok c → Below c
  alone_below at make [] c m h e = absurd (cc)
  alone_below at make (x ∷ []) c m h e = subst Below (ok_is (make x) c e) (m x h.0)
  alone_below at make (x ∷ y ∷ cs) c m h e = absurd (cc)

  several_below : (at : ℕ) (make : Parts ℕ → Constraint ℕ) (cs : List (Constraint ℕ)) (c : Constraint ℕ) → ((ps : Parts ℕ) → AreBelow (length names) ps → Below (make ps)) → AllBelow cs → several at make cs ≡ Ok c → Below c
  several_below at make [] c m h e = absurd (cc)
  several_below at make (x ∷ []) c m h e = subst Below (ok_is x c e) h.0
  several_below at make (x ∷ y ∷ cs) c m h e = subst Below (ok_is (make (parts_of (x ∷ y ∷ cs))) c e) (m (parts_of (x ∷ y ∷ cs)) (parts_below (x ∷ y ∷ cs) h))

  pair_below : (at : ℕ) (make : Constraint ℕ → Constraint ℕ → Constraint ℕ) (cs : List (Constraint ℕ)) (c : Constraint ℕ) → ((x y : Constraint ℕ) → Below x → Below y → Below (make x y)) → AllBelow cs → pair at make cs ≡ Ok c → Below c
  pair_below at make [] c m h e = absurd (cc)
  pair_below at make (x ∷ []) c m h e = absurd (cc)
  pair_below at make (x ∷ y ∷ []) c m h e = subst Below (ok_is (make x y) c e) (m x y h.0 h.1.0)
  pair_below at make (x ∷ y ∷ z ∷ cs) c m h e = absurd (cc)

  choice : {P : Type 0} (t : Bool) (a b : Read (Constraint ℕ)) (c : Constraint ℕ) → (a ≡ Ok c → P) → (b ≡ Ok c → P) → cond t a b ≡ Ok c → P
  choice true a b c f g e = f e
  choice false a b c f g e = g e

  joined_below : (e : Element) (cs : List (Constraint ℕ)) (c : Constraint ℕ) → AllBelow cs → joined names e cs ≡ Ok c → Below c
  joined_below e cs c h =
      choice (bytes_eq e.tag.name (codes "var")) (variable names e cs) _ c (variable_below e cs c)
      (choice (bytes_eq e.tag.name (codes "not")) (alone e.at negation cs) _ c (alone_below e.at negation cs c (λ x k. k) h)
      (choice (bytes_eq e.tag.name (codes "conj")) (several e.at all cs) _ c (several_below e.at all cs c (λ ps k. k) h)
      (choice (bytes_eq e.tag.name (codes "disj")) (several e.at any cs) _ c (several_below e.at any cs c (λ ps k. k) h)
      (choice (bytes_eq e.tag.name (codes "imp")) (pair e.at implication cs) (pair e.at equivalence cs) c (pair_below e.at implication cs c (λ x y k l. (k, l)) h)
      (pair_below e.at equivalence cs c (λ x y k l. (k, l)) h)))))

  joined_if_below : (o : Option Element) (cs : List (Constraint ℕ)) (c : Constraint ℕ) → AllBelow cs → joined_if names o cs ≡ Ok c → Below c
  joined_if_below None cs c h e = absurd (cc)
  joined_if_below (Some x) cs c h e = joined_below x cs c h e

  module _ (roles : List Role) (read : ℕ → Read (Constraint ℕ)) (below : (j : ℕ) (c : Constraint ℕ) → read j ≡ Ok c → Below c) (i : ℕ) where
    operand_below : (e : Element) (rest : Document) (j : ℕ) (before cs : List (Constraint ℕ)) → AllBelow before →
        ((k : ℕ) (xs : List (Constraint ℕ)) → AllBelow xs → operands_with read roles i k xs rest ≡ Ok cs → AllBelow cs) → (t : Bool) →
        cond t (read j >>= λ c. operands_with read roles i (suc j) (before ++ c ∷ []) rest) (operands_with read roles i (suc j) before rest) ≡ Ok cs → AllBelow cs
    operand_below e rest j before cs h ih false k = ih (suc j) before h k
    operand_below e rest j before cs h ih true k =
        let b = bind_ok (read j) (λ c. operands_with read roles i (suc j) (before ++ c ∷ []) rest) cs k in
        ih (suc j) (before ++ b.0 ∷ []) (more_below before b.0 h (below j b.0 b.1)) b.2

    operands_below : (es : Document) (j : ℕ) (before cs : List (Constraint ℕ)) → AllBelow before → operands_with read roles i j before es ≡ Ok cs → AllBelow cs
    operands_below [] j before cs h e = subst AllBelow (ok_is before cs e) h
    operands_below (e ∷ rest) j before cs h k = operand_below e rest j before cs h (λ n xs m l. operands_below rest n xs cs m l) (is_operand roles i j e) k

  module _ (roles : List Role) (d : Document) where
    formula_below : (n i : ℕ) (c : Constraint ℕ) → formula_with n names roles d i ≡ Ok c → Below c
    formula_below zero i c e = absurd (cc)
    formula_below (suc n) i c e =
        let b = bind_ok (operands_with (formula_with n names roles d) roles i 0 [] d) (λ cs. joined_if names (slice_get d i) cs) c e in
        joined_if_below (slice_get d i) b.0 c (operands_below roles (formula_with n names roles d) (formula_below n) i d 0 [] b.0 tt b.1) b.2

    shallow_below : (at : ℕ) (x c : Constraint ℕ) → Below x → shallow at x ≡ Ok c → Below c
    shallow_below at x c h e = choice (nat_le (open_signs x) 64) (Ok x) (Err (faults.TooDeep at)) c (λ k. subst Below (ok_is x c k) h) (λ k. absurd (cc)) e

    rule_below : (i : ℕ) (e : Element) (c : Constraint ℕ) → rule_at names roles d i e ≡ Ok c → Below c
    rule_below i e c h =
        let b = bind_ok (operands_with (formula_with 64 names roles d) roles i 0 [] d) (λ cs. (alone e.at (λ x. x) cs >>= shallow e.at)) c h in
        let a = bind_ok (alone e.at (λ x. x) b.0) (shallow e.at) c b.2 in
        shallow_below e.at a.0 c (alone_below e.at (λ x. x) b.0 a.0 (λ x k. k) (operands_below roles (formula_with 64 names roles d) (formula_below 64) i d 0 [] b.0 tt b.1) a.1) a.2

    rule_more : (e : Element) (rest : Document) (i : ℕ) (before cs : List (Constraint ℕ)) → AllBelow before →
        ((k : ℕ) (xs : List (Constraint ℕ)) → AllBelow xs → rules_with names roles d k xs rest ≡ Ok cs → AllBelow cs) → (t : Bool) →
        cond t (rule_at names roles d i e >>= λ c. rules_with names roles d (suc i) (before ++ c ∷ []) rest) (rules_with names roles d (suc i) before rest) ≡ Ok cs → AllBelow cs
    rule_more e rest i before cs h ih false k = ih (suc i) before h k
    rule_more e rest i before cs h ih true k =
        let b = bind_ok (rule_at names roles d i e) (λ c. rules_with names roles d (suc i) (before ++ c ∷ []) rest) cs k in
        ih (suc i) (before ++ b.0 ∷ []) (more_below before b.0 h (rule_below i e b.0 b.1)) b.2

    rules_below : (es : Document) (i : ℕ) (before cs : List (Constraint ℕ)) → AllBelow before → rules_with names roles d i before es ≡ Ok cs → AllBelow cs
    rules_below [] i before cs h e = subst AllBelow (ok_is before cs e) h
    rules_below (e ∷ rest) i before cs h k = rule_more e rest i before cs h (λ n xs m l. rules_below rest n xs cs m l) (is_rule (slice_index_or roles i Outside)) k

-- the constraints of a model are over its features
abbrev pub ModelBelow : FeatureModel → Type 0
ModelBelow m = AllByRecursion (IsBelow (length m.names)) m.constraints

constraints_below : (d : Document) (s : Seen) (names : List (List ℕ)) (m : FeatureModel) → with_constraints d s names ≡ Ok m → ModelBelow m
constraints_below d s [] m e = absurd (cc)
constraints_below d s (name ∷ names) m e =
    let b = bind_ok (rules_with s.names s.roles d 0 [] d) (λ cs. Ok (model_with s cs)) m e in
    subst ModelBelow (ok_is (model_with s b.0) m b.2) (rules_below s.names s.roles d d 0 [] b.0 tt b.1)

pub model_below : (d : Document) (m : FeatureModel) → model_of d ≡ Ok m → ModelBelow m
model_below d m e =
    let b = bind_ok (seen_with nothing d) (λ s. with_constraints d s s.names) m e in
    constraints_below d b.0 b.0.names m b.2
