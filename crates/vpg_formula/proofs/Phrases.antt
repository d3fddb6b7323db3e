-- Formulas are read as they are spelled, both ways.
use Rattle.std.proofs.Common.{◌≡◌, ℕ, zero, suc, Bool, true, false, cond, List, [], ◌∷◌, ◌++◌, Option, Some, None, refl, sym, ap, subst, ◌∙◌, inl, inr, ◌⊎◌, append_assoc}
use Rattle.std.specs.Prelude.{codes}
use Rattle.std.proofs.lemmas.List.{append-nil}
use Rattle.vpg_formula.specs.Regular.{Regular, is_action}
use Rattle.vpg_formula.specs.RegularGrammar.{Form, IsOperand, IsRegular}
use Rattle.vpg_formula.specs.Written.{Prefix, again_and_again, after, Fixpoint, Written, deadlock_free, binding, Modality, diamond, box, closing, along, is_variable, Head, leaf, deadlock, of_action, parenthesis, in_front, modality, again, after_action, binder, other, head_of, Phrase, whole, behind, conjunction, disjunction, implication, joined, conjunction_of, disjunction_of, implication_of}
use Rattle.vpg_formula.specs.FormulaGrammar.{PhraseForm, IsAction, Part, at_leaf, at_deadlock, at_action, at_parenthesis, at_front, at_modality, at_again, at_after, at_binder, Conjunction, Disjunction, Implication, plain, implies, NoPath, NoPhrase, Extent, an_operand, a_formula, IsPhrase, IsFormula}
use Rattle.vpg_formula.specs.Reading.{Read, ◌>>=◌, after_word, choice, enclosed_with, choice_with, nothing_read, operand_at, if_action, action_at, whole_if, put_behind, bound_with, binding_with, part_behind, part_with, conjunction_with, disjunction_with, implied_with, implication_with, no_phrase, phrase_at, if_last, formula_at}
use Rattle.vpg_formula.proofs.Series.{bind_some, choice_some, some, some_is, word_behind, word_next, Finds, Rereads, series_found, series_rereads}
use Rattle.vpg_formula.proofs.Regulars.{choice_found, choice_again, operand_found, operand_again, is_started, Ends, if_last_is}

abbrev Words : Type 0
Words = List (List ℕ)

-- what is found of these words
abbrev Found : PhraseForm → Words → Phrase × Words → Type 0
Found Item ws y = (us : Words) × Item us y.0 × (ws ≡ us ++ y.1)

moved : (Item : PhraseForm) (ws us rest : Words) (p : Phrase) (y : Phrase × Words) → Item us p → ws ≡ us ++ rest → some (p, rest) ≡ Some y → Found Item ws y
moved Item ws us rest p y i e f = subst (Found Item ws) (some_is (p, rest) y f) (us, i, e)

-- ---- what stands behind the first word

module _ (Path Action : Form) (Inner Formula : PhraseForm) (path act : Read Regular) (inner formula : Read Phrase)
    (paths : Finds Path path) (acts : Finds Action act) (inners : Finds Inner inner) (formulas : Finds Formula formula) where
  abbrev This : PhraseForm
  This ws p = Part Path Action Inner Formula ws p

  -- an operand behind a prefix
  put_found : (front ws : Words) (prefix : Prefix) (y : Phrase × Words) → put_behind prefix inner ws ≡ Some y → ((us : Words) (p : Phrase) → Inner us p → This (front ++ us) (behind prefix p)) → Found This (front ++ ws) y
  put_found front ws prefix y e make =
      let h = bind_some (inner ws) (λ p. Some (behind prefix p.0, p.1)) y e in
      let i = inners ws h.0 h.1 in
      moved This (front ++ ws) (front ++ i.0) h.0.1 (behind prefix h.0.0) y (make i.0 h.0.0 i.1) (ap (λ (t : Words). front ++ t) i.2 ∙ sym (append_assoc front i.0 h.0.1)) h.2

  -- what is enclosed by a word
  closed_found : {A : Type 0} (Item : Words → A → Type 0) (read : Read A) (close : List ℕ) (ws : Words) (x : A × Words) → Finds Item read → enclosed_with read close ws ≡ Some x → (us : Words) × Item us x.0 × (ws ≡ us ++ close ∷ x.1)
  closed_found {A} Item read close ws x finds e =
      let h = bind_some (read ws) (λ y. after_word close y.1 >>= λ rest. Some (y.0, rest)) x e in
      let j = bind_some (after_word close h.0.1) (λ rest. Some (h.0.0, rest)) x h.2 in
      let i = finds ws h.0 h.1 in
      let same : (h.0.0, j.0) ≡ x = some_is (h.0.0, j.0) x j.2 in
      subst (λ (z : A × Words). (us : Words) × Item us z.0 × (ws ≡ us ++ close ∷ z.1)) same (i.0, i.1, i.2 ∙ ap (λ (t : Words). i.0 ++ t) (word_behind close h.0.1 j.0 j.1))

  bound_found : (w x : List ℕ) (kind : Fixpoint) (ws rest : Words) (y : Phrase × Words) → head_of w ≡ binder kind → is_variable x ≡ true → ws ≡ codes "." ∷ rest → bound_with formula kind x rest ≡ Some y → Found This (w ∷ x ∷ ws) y
  bound_found w x kind ws rest y head v e f =
      let h = bind_some (formula rest) (λ p. Some (record { written = binding kind x p.0.written; is_endless = true }, p.1)) y f in
      let i = formulas rest h.0 h.1 in
      moved This (w ∷ x ∷ ws) (w ∷ x ∷ codes "." ∷ i.0) h.0.1 (record { written = binding kind x h.0.0.written; is_endless = true }) y (at_binder head v i.1) (ap (λ (t : Words). w ∷ x ∷ t) (e ∙ ap (λ (t : Words). codes "." ∷ t) i.2)) h.2

  binding_found : (w : List ℕ) (kind : Fixpoint) (ws : Words) (y : Phrase × Words) → head_of w ≡ binder kind → binding_with formula kind ws ≡ Some y → Found This (w ∷ ws) y
  binding_found w kind [] y head e = absurd cc
  binding_found w kind (x ∷ ws) y head e = go (is_variable x) refl e
    where
      go : (t : Bool) → is_variable x ≡ t → cond t (after_word (codes ".") ws >>= λ rest. bound_with formula kind x rest) None ≡ Some y → Found This (w ∷ x ∷ ws) y
      go false v e = absurd cc
      go true v e =
          let h = bind_some (after_word (codes ".") ws) (λ rest. bound_with formula kind x rest) y e in
          bound_found w x kind ws h.0 y head v (word_behind (codes ".") ws h.0 h.1) h.2

  behind_found : (w : List ℕ) (head : Head) (ws : Words) (y : Phrase × Words) → head_of w ≡ head → part_behind path act inner formula head ws ≡ Some y → Found This (w ∷ ws) y
  behind_found w (leaf f) ws y is e = moved This (w ∷ ws) (w ∷ []) ws (whole f) y (at_leaf is) refl e
  behind_found w deadlock ws y is e =
      let h = bind_some (after_word (codes "free") ws) (λ rest. Some (whole deadlock_free, rest)) y e in
      moved This (w ∷ ws) (w ∷ codes "free" ∷ []) h.0 (whole deadlock_free) y (at_deadlock is) (ap (λ (t : Words). w ∷ t) (word_behind (codes "free") ws h.0 h.1)) h.2
  behind_found w (of_action make) ws y is e =
      let h = bind_some (act ws) (λ x. whole_if make x) y e in
      let i = acts ws h.0 h.1 in
      moved This (w ∷ ws) (w ∷ i.0) h.0.1 (whole (make h.0.0)) y (at_action is i.1) (ap (λ (t : Words). w ∷ t) i.2) h.2
  behind_found w parenthesis ws y is e =
      let h = bind_some (enclosed_with formula (codes ")") ws) (λ p. Some (whole p.0.written, p.1)) y e in
      let i = closed_found Formula formula (codes ")") ws h.0 formulas h.1 in
      moved This (w ∷ ws) (w ∷ (i.0 ++ codes ")" ∷ [])) h.0.1 (whole h.0.0.written) y (at_parenthesis is i.1) (ap (λ (t : Words). w ∷ t) (i.2 ∙ sym (append_assoc i.0 (codes ")" ∷ []) h.0.1))) h.2
  behind_found w (in_front prefix) ws y is e = put_found (w ∷ []) ws prefix y e (λ us p i. at_front is i)
  behind_found w (modality m) ws y is e =
      let h = bind_some (enclosed_with path (closing m) ws) (λ x. put_behind (along m x.0) inner x.1) y e in
      let i = closed_found Path path (closing m) ws h.0 paths h.1 in
      subst (λ (t : Words). Found This (w ∷ t) y) (append_assoc i.0 (closing m ∷ []) h.0.1 ∙ sym i.2)
      (put_found (w ∷ (i.0 ++ closing m ∷ [])) h.0.1 (along m h.0.0) y h.2 (λ us p j. subst (λ (t : Words). This (w ∷ t) (behind (along m h.0.0) p)) (sym (append_assoc i.0 (closing m ∷ []) us)) (at_modality is i.1 j)))
  behind_found w again ws y is e =
      let h = bind_some (after_word (codes "and") ws) (λ us. after_word (codes "again") us >>= λ rest. put_behind again_and_again inner rest) y e in
      let j = bind_some (after_word (codes "again") h.0) (λ rest. put_behind again_and_again inner rest) y h.2 in
      subst (λ (t : Words). Found This (w ∷ t) y) (sym (word_behind (codes "and") ws h.0 h.1 ∙ ap (λ (t : Words). codes "and" ∷ t) (word_behind (codes "again") h.0 j.0 j.1)))
      (put_found (w ∷ codes "and" ∷ codes "again" ∷ []) j.0 again_and_again y j.2 (λ us p i. at_again is i))
  behind_found w after_action ws y is e =
      let h = bind_some (act ws) (λ x. put_behind (after x.0) inner x.1) y e in
      let i = acts ws h.0 h.1 in
      subst (λ (t : Words). Found This (w ∷ t) y) (sym i.2) (put_found (w ∷ i.0) h.0.1 (after h.0.0) y h.2 (λ us p j. at_after is i.1 j))
  behind_found w (binder kind) ws y is e = binding_found w kind ws y is e
  behind_found w other ws y is e = absurd cc

  part_found : Finds (Part Path Action Inner Formula) (part_with path act inner formula)
  unfolding part_with
  part_found [] y e = absurd cc
  part_found (w ∷ ws) y e = behind_found w (head_of w) ws y refl e

-- ---- whole formulas

implication_found : (Item Formula : PhraseForm) (item formula : Read Phrase) → Finds Item item → Finds Formula formula → Finds (Implication Item Formula) (implication_with item formula)
unfolding implication_with
implication_found Item Formula item formula items formulas ws y e =
    let h = bind_some (item ws) (λ p. choice (after_word (codes "=>") p.1) (implied_with formula p.0) (Some p)) y e in
    let i = items ws h.0 h.1 in
    go h.0 i (choice_some (after_word (codes "=>") h.0.1) (implied_with formula h.0.0) (Some h.0) y h.2)
  where
    go : (p : Phrase × Words) → (us : Words) × Item us p.0 × (ws ≡ us ++ p.1)
        → ((rest : Words) × (after_word (codes "=>") p.1 ≡ Some rest) × (implied_with formula p.0 rest ≡ Some y)) ⊎ ((after_word (codes "=>") p.1 ≡ None) × (some p ≡ Some y))
        → (us : Words) × Implication Item Formula us y.0 × (ws ≡ us ++ y.1)
    go p i (inr (none, f)) = moved (Implication Item Formula) ws i.0 p.1 p.0 y (plain i.1) i.2 f
    go p i (inl (rest, here, f)) =
        let h = bind_some (formula rest) (λ q. implication_of p.0 q.0 >>= λ r. Some (r, q.1)) y f in
        let j = bind_some (implication_of p.0 h.0.0) (λ r. Some (r, h.0.1)) y h.2 in
        let k = formulas rest h.0 h.1 in
        let parts : ws ≡ (i.0 ++ codes "=>" ∷ k.0) ++ h.0.1 =
        i.2 ∙ ap (λ (t : Words). i.0 ++ t) (word_behind (codes "=>") p.1 rest here ∙ ap (λ (t : Words). codes "=>" ∷ t) k.2) ∙ sym (append_assoc i.0 (codes "=>" ∷ k.0) h.0.1) in
        moved (Implication Item Formula) ws (i.0 ++ codes "=>" ∷ k.0) h.0.1 j.0 y (implies i.1 k.1 j.1) parts j.2

disjunction_found : (Item : PhraseForm) (read : Read Phrase) → Finds Item read → Finds (Disjunction Item) (disjunction_with read)
disjunction_found Item read finds = series_found (Conjunction Item) (conjunction_with read) (codes "||") disjunction_of (series_found Item read (codes "&&") conjunction_of finds)

action_found : (d : ℕ) → Finds (IsAction d) (action_at d)
action_found d ws x e =
    let h = bind_some (operand_at d ws) if_action x e in
    let i = operand_found d ws h.0 h.1 in
    go h.0 i (is_action h.0.0) refl h.2
  where
    go : (y : Regular × Words) → (us : Words) × IsOperand d us y.0 × (ws ≡ us ++ y.1) → (t : Bool) → is_action y.0 ≡ t → cond t (Some y) None ≡ Some x → (us : Words) × IsAction d us x.0 × (ws ≡ us ++ x.1)
    go y i false a f = absurd cc
    go y i true a f = subst (λ (z : Regular × Words). (us : Words) × IsAction d us z.0 × (ws ≡ us ++ z.1)) (some_is y x f) (i.0, record { operand = i.1; action = a }, i.2)

no_paths : Finds NoPath nothing_read
no_paths ws x e = absurd cc

no_phrases : Finds NoPhrase no_phrase
no_phrases ws x e = absurd cc

first_found : Finds (Part NoPath NoPath NoPhrase NoPhrase) (part_with nothing_read nothing_read no_phrase no_phrase)
first_found = part_found NoPath NoPath NoPhrase NoPhrase nothing_read nothing_read no_phrase no_phrase no_paths no_paths no_phrases no_phrases

pub phrase_found : (extent : Extent) (d : ℕ) → Finds (IsPhrase extent d) (phrase_at extent d)
unfolding IsPhrase phrase_at
phrase_found an_operand zero = first_found
phrase_found a_formula zero = implication_found (Disjunction (Part NoPath NoPath NoPhrase NoPhrase)) NoPhrase _ no_phrase (disjunction_found _ _ first_found) no_phrases
phrase_found an_operand (suc d) =
    part_found (IsRegular d) (IsAction d) (IsPhrase an_operand d) (IsPhrase a_formula d) (choice_with (operand_at d)) (action_at d) (phrase_at an_operand d) (phrase_at a_formula d)
    (choice_found (IsOperand d) (operand_at d) (operand_found d)) (action_found d) (phrase_found an_operand d) (phrase_found a_formula d)
phrase_found a_formula (suc d) =
    implication_found (Disjunction (Part (IsRegular d) (IsAction d) (IsPhrase an_operand d) (IsPhrase a_formula d))) (IsPhrase a_formula d) _ (phrase_at a_formula d)
    (disjunction_found _ _ (part_found (IsRegular d) (IsAction d) (IsPhrase an_operand d) (IsPhrase a_formula d) (choice_with (operand_at d)) (action_at d) (phrase_at an_operand d) (phrase_at a_formula d)
    (choice_found (IsOperand d) (operand_at d) (operand_found d)) (action_found d) (phrase_found an_operand d) (phrase_found a_formula d))) (phrase_found a_formula d)

-- ---- what is spelled is read

-- what may follow a whole formula, and what an operand
pub record EndsFormula (rest : Words) : Type 0 where
  pub all : after_word (codes "&&") rest ≡ None
  pub any : after_word (codes "||") rest ≡ None
  pub implies : after_word (codes "=>") rest ≡ None

abbrev pub EndsOperand : Phrase → Words → Type 0
EndsOperand p rest = p.is_endless ≡ true → EndsFormula rest

closes_path : (m : Modality) (rest : Words) → Ends (closing m ∷ rest)
closes_path diamond rest = record { all = refl; any = refl; stars = (refl, refl); starts = refl; dot = refl; plus = refl }
closes_path box rest = record { all = refl; any = refl; stars = (refl, refl); starts = refl; dot = refl; plus = refl }

closes_formula : (rest : Words) → EndsFormula (codes ")" ∷ rest)
closes_formula rest = record { all = refl; any = refl; implies = refl }

module _ (Path Action : Form) (Inner Formula : PhraseForm) (path act : Read Regular) (inner formula : Read Phrase)
    (paths : Rereads Path (λ x. Ends) path) (acts : Rereads Action (λ x rest. Unit {0}) act) (inners : Rereads Inner EndsOperand inner) (formulas : Rereads Formula (λ p. EndsFormula) formula) where
  put_again : (ws rest : Words) (prefix : Prefix) (p : Phrase) → Inner ws p → EndsOperand p rest → put_behind prefix inner (ws ++ rest) ≡ Some (behind prefix p, rest)
  put_again ws rest prefix p i f = ap (λ (o : Option (Phrase × Words)). o >>= λ p. Some (behind prefix p.0, p.1)) (inners ws rest p i f)

  closed_again : {A : Type 0} (read : Read A) (close : List ℕ) (ws rest : Words) (x : A) → read (ws ++ close ∷ rest) ≡ Some (x, close ∷ rest) → enclosed_with read close (ws ++ close ∷ rest) ≡ Some (x, rest)
  closed_again {A} read close ws rest x e =
      ap (λ (o : Option (A × Words)). o >>= λ y. after_word close y.1 >>= λ rest. Some (y.0, rest)) e
      ∙ ap (λ (o : Option Words). o >>= λ rest. Some (x, rest)) (word_next close rest)

  opened : (w : List ℕ) (head : Head) (ws : Words) → head_of w ≡ head → part_with path act inner formula (w ∷ ws) ≡ part_behind path act inner formula head ws
  unfolding part_with
  opened w head ws e = ap (λ (h : Head). part_behind path act inner formula h ws) e

  part_again : Rereads (Part Path Action Inner Formula) EndsOperand (part_with path act inner formula)
  part_again us rest p (at_leaf {w = w} {f = f} is) e = opened w (leaf f) rest is
  part_again us rest p (at_deadlock {w = w} is) e =
      opened w deadlock (codes "free" ∷ rest) is ∙ ap (λ (o : Option Words). o >>= λ rest. some (whole deadlock_free, rest)) (word_next (codes "free") rest)
  part_again us rest p (at_action {w = w} {ws = ws} {make = make} {x = x} is i) e =
      opened w (of_action make) (ws ++ rest) is ∙ ap (λ (o : Option (Regular × Words)). o >>= λ x. whole_if make x) (acts ws rest x i tt)
  part_again us rest p (at_parenthesis {w = w} {ws = ws} {p = q} is i) e =
      ap (λ (t : Words). part_with path act inner formula (w ∷ t)) (append_assoc ws (codes ")" ∷ []) rest)
      ∙ opened w parenthesis (ws ++ codes ")" ∷ rest) is
      ∙ ap (λ (o : Option (Phrase × Words)). o >>= λ p. some (whole p.0.written, p.1)) (closed_again formula (codes ")") ws rest q (formulas ws (codes ")" ∷ rest) q i (closes_formula rest)))
  part_again us rest p (at_front {w = w} {ws = ws} {prefix = prefix} {p = q} is i) e = opened w (in_front prefix) (ws ++ rest) is ∙ put_again ws rest prefix q i e
  part_again us rest p (at_modality {w = w} {us = vs} {ws = ws} {m = m} {x = x} {p = q} is i j) e =
      ap (λ (t : Words). part_with path act inner formula (w ∷ t)) (append_assoc vs (closing m ∷ ws) rest)
      ∙ opened w (modality m) (vs ++ closing m ∷ (ws ++ rest)) is
      ∙ ap (λ (o : Option (Regular × Words)). o >>= λ x. put_behind (along m x.0) inner x.1) (closed_again path (closing m) vs (ws ++ rest) x (paths vs (closing m ∷ (ws ++ rest)) x i (closes_path m (ws ++ rest))))
      ∙ put_again ws rest (along m x) q j e
  part_again us rest p (at_again {w = w} {ws = ws} {p = q} is i) e =
      opened w again (codes "and" ∷ codes "again" ∷ (ws ++ rest)) is
      ∙ ap (λ (o : Option Words). o >>= λ us. after_word (codes "again") us >>= λ rest. put_behind again_and_again inner rest) (word_next (codes "and") (codes "again" ∷ (ws ++ rest)))
      ∙ ap (λ (o : Option Words). o >>= λ rest. put_behind again_and_again inner rest) (word_next (codes "again") (ws ++ rest))
      ∙ put_again ws rest again_and_again q i e
  part_again us rest p (at_after {w = w} {us = vs} {ws = ws} {x = x} {p = q} is i j) e =
      ap (λ (t : Words). part_with path act inner formula (w ∷ t)) (append_assoc vs ws rest)
      ∙ opened w after_action (vs ++ (ws ++ rest)) is
      ∙ ap (λ (o : Option (Regular × Words)). o >>= λ x. put_behind (after x.0) inner x.1) (acts vs (ws ++ rest) x i tt)
      ∙ put_again ws rest (after x) q j e
  part_again us rest p (at_binder {w = w} {x = x} {ws = ws} {kind = kind} {p = q} is v i) e =
      opened w (binder kind) (x ∷ codes "." ∷ (ws ++ rest)) is
      ∙ ap (λ (t : Bool). cond t (after_word (codes ".") (codes "." ∷ (ws ++ rest)) >>= λ rest. bound_with formula kind x rest) None) v
      ∙ ap (λ (o : Option Words). o >>= λ rest. bound_with formula kind x rest) (word_next (codes ".") (ws ++ rest))
      ∙ ap (λ (o : Option (Phrase × Words)). o >>= λ p. some (record { written = binding kind x p.0.written; is_endless = true }, p.1)) (formulas ws rest q i (e refl))

-- ---- whole formulas

joined_first : (sign : Written → Written → Written) (p q r : Phrase) → joined sign p q ≡ Some r → p.is_endless ≡ false
joined_first sign p q r e = go p.is_endless e
  where
    go : (t : Bool) → cond t None (Some (record { written = sign p.written q.written; is_endless = q.is_endless })) ≡ Some r → t ≡ false
    go true e = absurd cc
    go false e = refl

joined_last : (sign : Written → Written → Written) (p q r : Phrase) → joined sign p q ≡ Some r → q.is_endless ≡ r.is_endless
joined_last sign p q r e = go p.is_endless e
  where
    go : (t : Bool) → cond t None (Some (record { written = sign p.written q.written; is_endless = q.is_endless })) ≡ Some r → q.is_endless ≡ r.is_endless
    go true e = absurd cc
    go false e = ap (λ (s : Phrase). s.is_endless) (some_is _ r e)

not_endless : (p : Phrase) (A : Type 0) → p.is_endless ≡ false → p.is_endless ≡ true → A
not_endless p A e f = absurd cc

module _ (Item : PhraseForm) (read : Read Phrase) (rereads : Rereads Item EndsOperand read) where
  conjunction_again : Rereads (Conjunction Item) (λ p rest. EndsOperand p rest × (after_word (codes "&&") rest ≡ None)) (conjunction_with read)
  conjunction_again =
      series_rereads Item read (codes "&&") conjunction_of EndsOperand rereads
      (λ us rest p q r j i. not_endless p _ (joined_first conjunction p q r j))
      (λ rest p q r j f e. f (sym (joined_last conjunction p q r j) ∙ e))

  disjunction_again : Rereads (Disjunction Item) (λ p rest. (EndsOperand p rest × (after_word (codes "&&") rest ≡ None)) × (after_word (codes "||") rest ≡ None)) (disjunction_with read)
  disjunction_again =
      series_rereads (Conjunction Item) (conjunction_with read) (codes "||") disjunction_of _ conjunction_again
      (λ us rest p q r j i. (not_endless p _ (joined_first disjunction p q r j), refl))
      (λ rest p q r j f. (λ e. f.0 (sym (joined_last disjunction p q r j) ∙ e), f.1))

implication_again : (Item Formula : PhraseForm) (item formula : Read Phrase)
    → Rereads Item (λ p rest. (EndsOperand p rest × (after_word (codes "&&") rest ≡ None)) × (after_word (codes "||") rest ≡ None)) item
    → Rereads Formula (λ p. EndsFormula) formula → Rereads (Implication Item Formula) (λ p. EndsFormula) (implication_with item formula)
unfolding implication_with
implication_again Item Formula item formula items formulas us rest p (plain i) e =
    ap (λ (o : Option (Phrase × Words)). o >>= λ p. choice (after_word (codes "=>") p.1) (implied_with formula p.0) (Some p)) (items us rest p i (((λ t. e), e.all), e.any))
    ∙ ap (λ (o : Option Words). choice o (implied_with formula p) (Some (p, rest))) e.implies
implication_again Item Formula item formula items formulas us rest r (implies {us = vs} {ws = ws} {p = p} {q = q} i k j) e =
    let behind = codes "=>" ∷ (ws ++ rest) in
    ap (implication_with item formula) (append_assoc vs (codes "=>" ∷ ws) rest)
    ∙ ap (λ (o : Option (Phrase × Words)). o >>= λ p. choice (after_word (codes "=>") p.1) (implied_with formula p.0) (Some p)) (items vs behind p i ((not_endless p _ (joined_first implication p q r j), refl), refl))
    ∙ ap (λ (o : Option Words). choice o (implied_with formula p) (Some (p, behind))) (word_next (codes "=>") (ws ++ rest))
    ∙ ap (λ (o : Option (Phrase × Words)). o >>= λ q. implication_of p q.0 >>= λ r. some (r, q.1)) (formulas ws rest q k e)
    ∙ ap (λ (o : Option Phrase). o >>= λ r. some (r, rest)) j

action_again : (d : ℕ) → Rereads (IsAction d) (λ x rest. Unit {0}) (action_at d)
action_again d us rest x i f =
    ap (λ (o : Option (Regular × Words)). o >>= λ x. if_action x) (operand_again d us rest x i.operand tt)
    ∙ ap (λ (t : Bool). cond t (Some (x, rest)) None) i.action

no_regular_again : Rereads NoPath (λ x. Ends) nothing_read
no_regular_again us rest x i f = absurd i

no_action_again : Rereads NoPath (λ x rest. Unit {0}) nothing_read
no_action_again us rest x i f = absurd i

no_operand_again : Rereads NoPhrase EndsOperand no_phrase
no_operand_again us rest p i f = absurd i

no_formula_again : Rereads NoPhrase (λ p. EndsFormula) no_phrase
no_formula_again us rest p i f = absurd i

first_again : Rereads (Part NoPath NoPath NoPhrase NoPhrase) EndsOperand (part_with nothing_read nothing_read no_phrase no_phrase)
first_again = part_again NoPath NoPath NoPhrase NoPhrase nothing_read nothing_read no_phrase no_phrase no_regular_again no_action_again no_operand_again no_formula_again

paths_again : (d : ℕ) → Rereads (IsRegular d) (λ x. Ends) (choice_with (operand_at d))
paths_again d = choice_again (IsOperand d) (operand_at d) (operand_again d) (is_started d)

mutual
  unfolding IsPhrase phrase_at

  pub operand_phrase_again : (d : ℕ) → Rereads (IsPhrase an_operand d) EndsOperand (phrase_at an_operand d)
  operand_phrase_again zero = first_again
  operand_phrase_again (suc d) =
      part_again (IsRegular d) (IsAction d) (IsPhrase an_operand d) (IsPhrase a_formula d) (choice_with (operand_at d)) (action_at d) (phrase_at an_operand d) (phrase_at a_formula d)
      (paths_again d) (action_again d) (operand_phrase_again d) (formula_again d)

  pub formula_again : (d : ℕ) → Rereads (IsPhrase a_formula d) (λ p. EndsFormula) (phrase_at a_formula d)
  formula_again zero = implication_again (Disjunction (Part NoPath NoPath NoPhrase NoPhrase)) NoPhrase _ no_phrase (disjunction_again _ _ first_again) no_formula_again
  formula_again (suc d) =
      implication_again (Disjunction (Part (IsRegular d) (IsAction d) (IsPhrase an_operand d) (IsPhrase a_formula d))) (IsPhrase a_formula d) _ (phrase_at a_formula d)
      (disjunction_again _ _ (part_again (IsRegular d) (IsAction d) (IsPhrase an_operand d) (IsPhrase a_formula d) (choice_with (operand_at d)) (action_at d) (phrase_at an_operand d) (phrase_at a_formula d)
      (paths_again d) (action_again d) (operand_phrase_again d) (formula_again d))) (formula_again d)

-- ---- whole texts

ended : EndsFormula []
ended = record { all = refl; any = refl; implies = refl }

-- what is read is spelled so
pub formula_found : (ws : Words) (p : Phrase) → formula_at ws ≡ Some p → IsFormula 64 ws p
formula_found ws p e =
    let h = bind_some (phrase_at a_formula 64 ws) (λ y. if_last y.0 y.1) p e in
    let i = phrase_found a_formula 64 ws h.0 h.1 in
    let last = if_last_is h.0.0 p h.0.1 h.2 in
    let all : ws ≡ i.0 = i.2 ∙ ap (λ (t : Words). i.0 ++ t) last.0 ∙ append-nil i.0 in
    subst (λ (q : Phrase). IsFormula 64 ws q) last.1 (subst (λ (t : Words). IsFormula 64 t h.0.0) (sym all) i.1)

-- what is spelled so is read
pub formula_reread : (ws : Words) (p : Phrase) → IsFormula 64 ws p → formula_at ws ≡ Some p
formula_reread ws p i =
    let again = formula_again 64 ws [] p i ended in
    ap (λ (o : Option (Phrase × Words)). o >>= λ y. if_last y.0 y.1) (ap (phrase_at a_formula 64) (sym (append-nil ws)) ∙ again)
