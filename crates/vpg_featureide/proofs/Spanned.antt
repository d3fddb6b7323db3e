-- The spans of elements with one more child, and elements without operands.
use Rattle.std.proofs.Common.{◌≡◌, ℕ, zero, suc, ◌+◌, ◌-◌, ◌<◌, ◌≤◌, Bool, true, false, cond, List, [], ◌∷◌, ◌++◌, length, take, drop, set, get_or, Option, Some, None, Result, Ok, Err, ◌⊎◌, inl, inr, refl, sym, ap, subst, ◌∙◌, arith, eqb-true}
use Rattle.std.specs.Prelude.{◌&&◌, slice_get}
use Rattle.std.proofs.lemmas.List.{take-append-drop, length-take, length-map}
use Rattle.std.proofs.lemmas.Option.{slice_get-get_or, slice_get_within}
use Rattle.vpg_rules.specs.Constraint.{Constraint}
use Rattle.vpg_xml.specs.Elements.{Element, Document}
use Rattle.vpg_xml.specs.View.{element_of, elements_of}
use Rattle.vpg_xml.specs.declared.element.Element as code_element
use Rattle.vpg_featureide.specs.Roles.{Role, Outside}
use Rattle.vpg_featureide.specs.Formulas.{◌>>=◌, is_child, is_formula, is_operand, operands_with}
use Rattle.vpg_featureide.specs.Spans.{no_child, first_child, with_child, with_child_of, AreSpans}
use Rattle.vpg_featureide.specs.View.{IsRefused}
use Rattle.vpg_featureide.specs.declared.spans.Span.{Span}
use Rattle.vpg_featureide.specs.declared.fault.ModelFault.{ModelFault}
use Rattle.vpg_featureide.proofs.Formed.{element_is}

-- ---- one more child

set_length : {X : Type 0} (xs : List X) (p : ℕ) (x : X) → length (set xs p x) ≡ length xs
set_length [] p x = refl
set_length (y ∷ xs) zero x = refl
set_length (y ∷ xs) (suc p) x = ap suc (set_length xs p x)

-- what stands at an index after one was set
abbrev IsSetAt : {X : Type 0} → List X → ℕ → X → ℕ → X → Type 0
IsSetAt xs p x i y = ((i ≡ p) × (y ≡ x)) ⊎ ((i ≡ p → ⊥) × (slice_get xs i ≡ Some y))

one_further : {X : Type 0} (z : X) (xs : List X) (p : ℕ) (x : X) (i : ℕ) (y : X) → IsSetAt xs p x i y → IsSetAt (z ∷ xs) (suc p) x (suc i) y
one_further z xs p x i y (inl h) = inl (ap suc h.0, h.1)
one_further z xs p x i y (inr h) = inr ((λ e. h.0 (omega (arith, e))), h.1)

set_at_index : {X : Type 0} (xs : List X) (p : ℕ) (x : X) (i : ℕ) (y : X) → slice_get (set xs p x) i ≡ Some y → IsSetAt xs p x i y
set_at_index [] p x i y e = absurd (cc)
set_at_index (z ∷ xs) zero x zero y e = let same : x ≡ y = cc in inl (refl, sym same)
set_at_index (z ∷ xs) zero x (suc i) y e = inr ((λ n. omega (arith, n)), e)
set_at_index (z ∷ xs) (suc p) x zero y e = inr ((λ n. omega (arith, n)), e)
set_at_index (z ∷ xs) (suc p) x (suc i) y e = one_further z xs p x i y (set_at_index xs p x i y e)

either_before : (j n : ℕ) → j < n + 1 → (j < n) ⊎ (j ≡ n)
either_before zero zero h = inr refl
either_before zero (suc n) h = inl (omega arith)
either_before (suc j) zero h = absurd (omega (arith, h))
either_before (suc j) (suc n) h = go (either_before j n (omega (arith, h)))
  where
    go : (j < n) ⊎ (j ≡ n) → (suc j < suc n) ⊎ (suc j ≡ suc n)
    go (inl l) = inl (omega (arith, l))
    go (inr e) = inr (ap suc e)

child_is : (i : ℕ) (o : Option ℕ) → is_child i o ≡ true → o ≡ Some i
child_is i None e = absurd (cc)
child_is i (Some p) e = ap (λ (n : ℕ). Some n) (eqb-true p i e)

first_within : (from to child : ℕ) → from ≤ child → first_child from to child ≤ child
first_within from zero child h = omega arith
first_within from (suc to) child h = h

first_kept : (from to child j : ℕ) → j < to → first_child from to child ≡ from
first_kept from zero child j h = absurd (omega (arith, h))
first_kept from (suc to) child j h = refl

module _ (spans : List Span) (d : Document) (n : ℕ) (e : Element) (is : slice_get d n ≡ Some e) (h : AreSpans n spans d) where
  same_element : (j : ℕ) (x : Element) → slice_get d j ≡ Some x → j ≡ n → x ≡ e
  same_element j x at eq = let there : slice_get d j ≡ slice_get d n = ap (slice_get d) eq in cc

  childless : e.parent ≡ None → AreSpans (n + 1) spans d
  childless none = record {
    each = h.each;
    begin = λ i s at. let l = h.begin i s at in omega (arith, l);
    end = λ i s at. let l = h.end i s at in omega (arith, l);
    children = λ i j s x lt at here child. go i j s x at here child (either_before j n lt);
  }
    where
      go : (i j : ℕ) (s : Span) (x : Element) → slice_get spans i ≡ Some s → slice_get d j ≡ Some x → is_child i x.parent ≡ true → (j < n) ⊎ (j ≡ n) → (s.from ≤ j) × (j < s.to)
      go i j s x at here child (inl l) = h.children i j s x l at here child
      go i j s x at here child (inr eq) =
          let is_e = same_element j x here eq in
          let parent : None ≡ Some i = sym none ∙ (ap (λ (y : Element). y.parent) (sym is_e) ∙ child_is i x.parent child) in
          absurd (cc)

  module _ (p : ℕ) (parent : e.parent ≡ Some p) where
    abbrev old : Span
    old = get_or spans p no_child

    abbrev new : Span
    new = with_child old n

    was : (i : ℕ) (s : Span) → slice_get (set spans p new) i ≡ Some s → i ≡ p → slice_get spans p ≡ Some old
    was i s at eq =
        let l = slice_get_within (set spans p new) i s at in
        slice_get-get_or spans p no_child (omega (arith, l, eq, set_length spans p new))

    begins : (i : ℕ) (s : Span) → slice_get (set spans p new) i ≡ Some s → IsSetAt spans p new i s → s.from ≤ n + 1
    begins i s at (inl k) =
        let l = first_within old.from old.to n (h.begin p old (was i s at k.0)) in
        let from : s.from ≡ first_child old.from old.to n = ap (λ (x : Span). x.from) k.1 in omega (arith, l, from)
    begins i s at (inr k) = let l = h.begin i s k.1 in omega (arith, l)

    ends : (i : ℕ) (s : Span) → slice_get (set spans p new) i ≡ Some s → IsSetAt spans p new i s → s.to ≤ n + 1
    ends i s at (inl k) = let to : s.to ≡ n + 1 = ap (λ (x : Span). x.to) k.1 in omega (arith, to)
    ends i s at (inr k) = let l = h.end i s k.1 in omega (arith, l)

    inside : (i j : ℕ) (s : Span) (x : Element) → slice_get (set spans p new) i ≡ Some s → slice_get d j ≡ Some x → is_child i x.parent ≡ true → (j < n) ⊎ (j ≡ n) → IsSetAt spans p new i s → (s.from ≤ j) × (j < s.to)
    inside i j s x at here child (inl l) (inr k) = h.children i j s x l k.1 here child
    inside i j s x at here child (inr eq) (inr k) =
        let is_e = same_element j x here eq in
        let same : Some p ≡ Some i = sym parent ∙ (ap (λ (y : Element). y.parent) (sym is_e) ∙ child_is i x.parent child) in
        let number : p ≡ i = cc in absurd (k.0 (sym number))
    inside i j s x at here child (inl l) (inl k) =
        let before = was i s at k.0 in
        let of_p : is_child p x.parent ≡ true = ap (λ (m : ℕ). is_child m x.parent) (sym k.0) ∙ child in
        let held = h.children p j old x l before here of_p in
        let kept = first_kept old.from old.to n j held.1 in
        let from : s.from ≡ first_child old.from old.to n = ap (λ (y : Span). y.from) k.1 in
        let to : s.to ≡ n + 1 = ap (λ (y : Span). y.to) k.1 in
        (omega (arith, from, kept, held.0), omega (arith, to, l))
    inside i j s x at here child (inr eq) (inl k) =
        let before = was i s at k.0 in
        let l = first_within old.from old.to n (h.begin p old before) in
        let from : s.from ≡ first_child old.from old.to n = ap (λ (y : Span). y.from) k.1 in
        let to : s.to ≡ n + 1 = ap (λ (y : Span). y.to) k.1 in
        (omega (arith, from, l, eq), omega (arith, to, eq))

    of_parent : AreSpans (n + 1) (set spans p new) d
    of_parent = record {
      each = set_length spans p new ∙ h.each;
      begin = λ i s at. begins i s at (set_at_index spans p new i s at);
      end = λ i s at. ends i s at (set_at_index spans p new i s at);
      children = λ i j s x lt at here child. inside i j s x at here child (either_before j n lt) (set_at_index spans p new i s at);
    }

  pub one_more : AreSpans (n + 1) (with_child_of e.parent n spans) d
  one_more = go e.parent refl
    where
      go : (o : Option ℕ) → e.parent ≡ o → AreSpans (n + 1) (with_child_of o n spans) d
      go None none = childless none
      go (Some p) parent = of_parent p parent

-- ---- no operands

in_front : (k : ℕ) (es : Document) (m : ℕ) (e : Element) → slice_get (take k es) m ≡ Some e → (m < k) × (slice_get es m ≡ Some e)
in_front zero es m e at = absurd (cc)
in_front (suc k) [] m e at = absurd (cc)
in_front (suc k) (x ∷ es) zero e at = (omega arith, at)
in_front (suc k) (x ∷ es) (suc m) e at = let h = in_front k es m e at in (omega (arith, h.0), h.1)

in_back : (k : ℕ) (es : Document) (m : ℕ) (e : Element) → slice_get (drop k es) m ≡ Some e → slice_get es (k + m) ≡ Some e
in_back zero es m e at = let same : m ≡ 0 + m = omega arith in subst (λ (n : ℕ). slice_get es n ≡ Some e) same at
in_back (suc k) [] m e at = absurd (cc)
in_back (suc k) (x ∷ es) m e at = let same : suc (k + m) ≡ suc k + m = omega arith in subst (λ (n : ℕ). slice_get (x ∷ es) n ≡ Some e) same (in_back k es m e at)

pub dropped : (j : ℕ) (es : Document) (e : Element) → slice_get es j ≡ Some e → drop j es ≡ e ∷ drop (j + 1) es
dropped j [] e at = absurd (cc)
dropped zero (x ∷ es) e at = let same : x ≡ e = cc in let next : 1 ≡ zero + 1 = omega arith in ap (λ (y : Element). y ∷ es) same ∙ ap (λ (n : ℕ). e ∷ drop n (x ∷ es)) next
dropped (suc j) (x ∷ es) e at = let next : suc (j + 1) ≡ suc j + 1 = omega arith in dropped j es e at ∙ ap (λ (n : ℕ). e ∷ drop n (x ∷ es)) next

module _ (read : ℕ → Result (Constraint ℕ) ModelFault) (roles : List Role) (i : ℕ) where
  abbrev From : ℕ → List (Constraint ℕ) → Document → Result (List (Constraint ℕ)) ModelFault
  From j before es = operands_with read roles i j before es

  -- none of these elements is a child of the element
  abbrev AreNone : Document → Type 0
  AreNone es = (m : ℕ) (e : Element) → slice_get es m ≡ Some e → is_child i e.parent ≡ false

  no_operand : (j : ℕ) (e : Element) (before : List (Constraint ℕ)) (rest : Document) → is_child i e.parent ≡ false → From j before (e ∷ rest) ≡ From (suc j) before rest
  no_operand j e before rest none =
      ap (λ (b : Bool). cond (b && is_formula (get_or roles j Outside)) (read j >>= λ c. From (suc j) (before ++ c ∷ []) rest) (From (suc j) before rest)) none

  skipped : (front back : Document) (j : ℕ) (before : List (Constraint ℕ)) → AreNone front → From j before (front ++ back) ≡ From (j + length front) before back
  skipped [] back j before none = let same : j ≡ j + 0 = omega arith in ap (λ (k : ℕ). From k before back) same
  skipped (e ∷ front) back j before none =
      let further : suc j + length front ≡ j + suc (length front) = omega arith in
      no_operand j e before (front ++ back) (none 0 e refl) ∙ (skipped front back (suc j) before (λ m x at. none (suc m) x at)
      ∙ ap (λ (k : ℕ). From k before back) further)

  ended : (es : Document) (j : ℕ) (before : List (Constraint ℕ)) → AreNone es → From j before es ≡ Ok before
  ended [] j before none = refl
  ended (e ∷ es) j before none = no_operand j e before es (none 0 e refl) ∙ ended es (suc j) before (λ m x at. none (suc m) x at)

  -- ---- operands one by one

  pub operand_more : (j k : ℕ) (e : Element) (before : List (Constraint ℕ)) (rest : Document) (c : Constraint ℕ) → k ≡ suc j → is_operand roles i j e ≡ true →
      read j ≡ Ok c → From j before (e ∷ rest) ≡ From k (before ++ c ∷ []) rest
  operand_more j k e before rest c next is h =
      ap (λ (t : Bool). cond t (read j >>= λ x. From (suc j) (before ++ x ∷ []) rest) (From (suc j) before rest)) is
      ∙ (ap (λ (o : Result (Constraint ℕ) ModelFault). o >>= λ x. From (suc j) (before ++ x ∷ []) rest) h ∙ ap (λ (n : ℕ). From n (before ++ c ∷ []) rest) (sym next))

  pub operand_less : (j k : ℕ) (e : Element) (before : List (Constraint ℕ)) (rest : Document) → k ≡ suc j → is_operand roles i j e ≡ false →
      From j before (e ∷ rest) ≡ From k before rest
  operand_less j k e before rest next is =
      ap (λ (t : Bool). cond t (read j >>= λ x. From (suc j) (before ++ x ∷ []) rest) (From (suc j) before rest)) is
      ∙ ap (λ (n : ℕ). From n before rest) (sym next)

  pub operand_err : (j : ℕ) (e : Element) (before : List (Constraint ℕ)) (rest : Document) (fault : ModelFault) → is_operand roles i j e ≡ true →
      IsRefused (read j) fault → IsRefused (From j before (e ∷ rest)) fault
  operand_err j e before rest fault is (inl m) = inl m
  operand_err j e before rest fault is (inr h) = inr (ap (λ (t : Bool). cond t (read j >>= λ c. From (suc j) (before ++ c ∷ []) rest) (From (suc j) before rest)) is
      ∙ ap (λ (o : Result (Constraint ℕ) ModelFault). o >>= λ c. From (suc j) (before ++ c ∷ []) rest) h)

  -- ---- all operands are in the span

  module _ (d : Document) (spans : List Span) (h : AreSpans (length d) spans d) (s : Span) (at : slice_get spans i ≡ Some s) where
    outside : (j : ℕ) (e : Element) → slice_get d j ≡ Some e → (j < s.from) ⊎ (s.to ≤ j) → is_child i e.parent ≡ false
    outside j e here out = go (is_child i e.parent) refl out
      where
        go : (b : Bool) → is_child i e.parent ≡ b → (j < s.from) ⊎ (s.to ≤ j) → b ≡ false
        go false is out = refl
        go true is (inl l) = let k = h.children i j s e (slice_get_within d j e here) at here is in absurd (omega (arith, l, k.0))
        go true is (inr l) = let k = h.children i j s e (slice_get_within d j e here) at here is in absurd (omega (arith, l, k.1))

    pub operands_start : From 0 [] d ≡ From s.from [] (drop s.from d)
    operands_start =
        let count : 0 + length (take s.from d) ≡ s.from = omega (arith, length-take s.from d, h.begin i s at) in
        ap (λ (es : Document). From 0 [] es) (sym (take-append-drop s.from d))
        ∙ (skipped (take s.from d) (drop s.from d) 0 [] (λ m e k. let f = in_front s.from d m e k in outside m e f.1 (inl f.0))
        ∙ ap (λ (n : ℕ). From n [] (drop s.from d)) count)

    pub operands_end : (j : ℕ) (before : List (Constraint ℕ)) → s.to ≤ j → From j before (drop j d) ≡ Ok before
    operands_end j before l = ended (drop j d) j before (λ m e k. outside (j + m) e (in_back j d m e k) (inr (omega (arith, l))))

-- ---- the elements of the code

module _ (spans : List Span) (xs : List code_element.Element) (i : ℕ) (h : AreSpans (length xs) spans (elements_of xs)) (within : i < length xs) where
  abbrev pub span : Span
  span = get_or spans i no_child

  span_at : slice_get spans i ≡ Some span
  span_at = slice_get-get_or spans i no_child (omega (arith, within, h.each, length-map xs element_of))

  all_spans : AreSpans (length (elements_of xs)) spans (elements_of xs)
  all_spans = subst (λ (n : ℕ). AreSpans n spans (elements_of xs)) (sym (length-map xs element_of)) h

  pub ends_within : span.to ≤ length xs
  ends_within = h.end i span span_at

  pub begun : (read : ℕ → Result (Constraint ℕ) ModelFault) (roles : List Role) → operands_with read roles i 0 [] (elements_of xs) ≡ operands_with read roles i span.from [] (drop span.from (elements_of xs))
  begun read roles = operands_start read roles i (elements_of xs) spans all_spans span span_at

  pub done : (read : ℕ → Result (Constraint ℕ) ModelFault) (roles : List Role) (j : ℕ) (before : List (Constraint ℕ)) → span.to ≤ j → operands_with read roles i j before (drop j (elements_of xs)) ≡ Ok before
  done read roles j before l = operands_end read roles i (elements_of xs) spans all_spans span span_at j before l

pub element_here : (xs : List code_element.Element) (j : ℕ) (e : code_element.Element) → j < length xs → e ≡ get_or xs j e → drop j (elements_of xs) ≡ element_of e ∷ drop (j + 1) (elements_of xs)
element_here xs j e l is = dropped j (elements_of xs) (element_of e) (element_is xs j e l is)
