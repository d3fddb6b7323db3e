-- The steps of reading, as the code takes them.
use Rattle.std.proofs.Common.{◌≡◌, ℕ, zero, suc, ◌-◌, ◌<◌, List, ◌++◌, length, Option, Some, None, Result, Ok, Err, refl, sym, ap, ◌∙◌, arith}
use Rattle.std.specs.Prelude.{IfOk, MatchOption, option_map, codes, ◌≢◌}
use Rattle.std.specs.Borrow.{Bor}
use Rattle.vpg_guards.specs.Reading.{◌>>=◌, after_blanks}
use Rattle.vpg_rules.specs.declared.fault.RuleFault.{RuleFault}
use Rattle.vpg_rules.specs.declared.fault.RuleFault.TheVariants as faults
use Rattle.vpg_rules.specs.Constraint.{Constraint, Parts, no_parts, part, negation, implication, equivalence}
use Rattle.vpg_rules.specs.Grammar.{added}
use Rattle.vpg_rules.specs.Reading.{Read, Fails, stripped, after_mark, choice, more, made, series_at, arrow_at, disjunction_with, factor_with, close, inverted_with, enclosed_with, factor_at, implication_at, rule_at, word_at}
use Rattle.vpg_rules.proofs.Marks.{strip_is, strip_front}
use Rattle.vpg_rules.proofs.Series.{arrow_fails, arrow_stops, arrow_goes}
use Rattle.vpg_rules.proofs.Words.{not_chosen, open_chosen, word_next}

-- where one reader fails another does
pub fails_too : {A B : Type 0} (e : RuleFault) (r : Option A) (s : Option B) → (r ≡ None → s ≡ None) → Fails e r → Fails e s
fails_too faults.Memory r s so h = tt
fails_too (faults.Syntax at) r s so h = so h
fails_too (faults.TooDeep at) r s so h = so h

pub if_ok_then : {T E : Type 0} (r : Result T E) (P Q : T → Type 0) → ((x : T) → P x → Q x) → IfOk r P → IfOk r Q
if_ok_then (Ok x) P Q so h = so x h
if_ok_then (Err e) P Q so h = tt

-- ---- marks

pub stripped_of : (text mark : List ℕ) (r : Option (Bor (List ℕ))) → MatchOption r ((rest : List ℕ) → text ≢ mark ++ rest) (λ x. text ≡ mark ++ x.now) → option_map (λ x. x.now) r ≡ stripped mark text
stripped_of text mark (Some x) is = sym (ap (stripped mark) is ∙ strip_front mark x.now)
stripped_of text mark None absent = go (stripped mark text) (strip_is mark text)
  where
    go : (o : Option (List ℕ)) → ((rest : List ℕ) → o ≡ Some rest → text ≡ mark ++ rest) → None ≡ o
    go None is = refl
    go (Some rest) is = absurd (absent rest (is rest refl))

-- ---- series

pub series_fails : {A : Type 0} (read : List ℕ → Read A) (mark : List ℕ) (make : Parts A → Constraint A) (text : List ℕ) → read text ≡ None → series_at read mark make text ≡ None
unfolding series_at
series_fails {A = A} read mark make text e = ap (λ (r : Read A). r >>= λ x. made make (more read mark (length x.1) (part x.0 no_parts) x.1)) e

pub series_starts : {A : Type 0} (read : List ℕ → Read A) (mark : List ℕ) (make : Parts A → Constraint A) (text : List ℕ) (x : Constraint A × List ℕ) → read text ≡ Some x → series_at read mark make text ≡ made make (more read mark (length x.1) (part x.0 no_parts) x.1)
unfolding series_at
series_starts {A = A} read mark make text x e = ap (λ (r : Read A). r >>= λ y. made make (more read mark (length y.1) (part y.0 no_parts) y.1)) e

pub more_fails : {A : Type 0} (read : List ℕ → Read A) (mark : List ℕ) (n : ℕ) (cs : Parts A) (text rest : List ℕ) → 0 < n → after_mark mark text ≡ Some rest → read rest ≡ None → more read mark n cs text ≡ None
unfolding more
more_fails {A = A} read mark zero cs text rest lt e f = absurd (omega arith)
more_fails {A = A} read mark (suc n) cs text rest lt e f =
    ap (λ (o : Option (List ℕ)). choice o (λ rest. read rest >>= λ x. more read mark n (added cs x.0) x.1) (Some (cs, text))) e ∙ ap (λ (r : Read A). r >>= λ x. more read mark n (added cs x.0) x.1) f

-- ---- levels

again_deep : (d : ℕ) → 0 < d → d ≡ suc (d - 1)
again_deep d lt = omega arith

factor_is : {A : Type 0} (to : List ℕ → A) (n : ℕ) (text : List ℕ) → factor_at to (suc n) text ≡ factor_with to (factor_at to n) (rule_at to n) text
unfolding factor_at
factor_is to n text = refl

no_factor : {A : Type 0} (to : List ℕ → A) (n : ℕ) (text : List ℕ) → n ≡ 0 → factor_at to n text ≡ None
unfolding factor_at
no_factor to zero text e = refl
no_factor to (suc n) text e = absurd (omega arith)

no_implication : {A : Type 0} (to : List ℕ → A) (n : ℕ) (text : List ℕ) → n ≡ 0 → implication_at to n text ≡ None
unfolding implication_at
no_implication to zero text e = refl
no_implication to (suc n) text e = absurd (omega arith)

no_rule : {A : Type 0} (to : List ℕ → A) (n : ℕ) (text : List ℕ) → n ≡ 0 → rule_at to n text ≡ None
unfolding rule_at
no_rule to zero text e = refl
no_rule to (suc n) text e = absurd (omega arith)

module _ {A : Type 0} (to : List ℕ → A) (d : ℕ) (text : List ℕ) where
  pub factor_inverted : (rest : List ℕ) → 0 < d → after_mark (codes "!") text ≡ Some rest → factor_at to (suc d) text ≡ inverted_with (factor_at to (suc (d - 1))) rest
  factor_inverted rest lt e =
      factor_is to d text ∙ not_chosen to (factor_at to d) (rule_at to d) text rest e ∙ ap (λ (k : ℕ). inverted_with (factor_at to k) rest) (again_deep d lt)

  pub factor_enclosed : (rest : List ℕ) → 0 < d → after_mark (codes "!") text ≡ None → after_mark (codes "(") text ≡ Some rest → factor_at to (suc d) text ≡ enclosed_with (rule_at to (suc (d - 1))) rest
  factor_enclosed rest lt e f =
      factor_is to d text ∙ open_chosen to (factor_at to d) (rule_at to d) text rest e f ∙ ap (λ (k : ℕ). enclosed_with (rule_at to k) rest) (again_deep d lt)

  pub too_deep_inverted : (rest : List ℕ) → d ≡ 0 → after_mark (codes "!") text ≡ Some rest → factor_at to (suc d) text ≡ None
  too_deep_inverted rest z e =
      factor_is to d text ∙ not_chosen to (factor_at to d) (rule_at to d) text rest e ∙ ap (λ (r : Read A). r >>= λ x. Some (negation x.0, x.1)) (no_factor to d rest z)

  pub too_deep_enclosed : (rest : List ℕ) → d ≡ 0 → after_mark (codes "!") text ≡ None → after_mark (codes "(") text ≡ Some rest → factor_at to (suc d) text ≡ None
  too_deep_enclosed rest z e f =
      factor_is to d text ∙ open_chosen to (factor_at to d) (rule_at to d) text rest e f ∙ ap (λ (r : Read A). r >>= λ x. close x.0 (after_mark (codes ")") x.1)) (no_rule to d rest z)

  pub factor_word : after_mark (codes "!") text ≡ None → after_mark (codes "(") text ≡ None → factor_at to (suc d) text ≡ word_at to (after_blanks text)
  factor_word e f = factor_is to d text ∙ word_next to (factor_at to d) (rule_at to d) text e f

  implication_is : implication_at to (suc d) text ≡ arrow_at (disjunction_with (factor_at to (suc d))) (implication_at to d) (codes "=>") implication text
  unfolding implication_at factor_at
  implication_is = refl

  rule_is : rule_at to (suc d) text ≡ arrow_at (implication_at to (suc d)) (rule_at to d) (codes "<=>") equivalence text
  unfolding rule_at implication_at
  rule_is = refl

  -- an implication without its left side, without an arrow, and with one
  pub implication_fails : disjunction_with (factor_at to (suc d)) text ≡ None → implication_at to (suc d) text ≡ None
  implication_fails e = implication_is ∙ arrow_fails (disjunction_with (factor_at to (suc d))) (implication_at to d) (codes "=>") implication text e

  pub implication_stops : (x : Constraint A × List ℕ) → disjunction_with (factor_at to (suc d)) text ≡ Some x → after_mark (codes "=>") x.1 ≡ None → implication_at to (suc d) text ≡ Some x
  implication_stops x e f = implication_is ∙ arrow_stops (disjunction_with (factor_at to (suc d))) (implication_at to d) (codes "=>") implication text x e f

  implication_comes : (x : Constraint A × List ℕ) (behind : List ℕ) → disjunction_with (factor_at to (suc d)) text ≡ Some x → after_mark (codes "=>") x.1 ≡ Some behind
      → implication_at to (suc d) text ≡ (implication_at to d behind >>= λ y. Some (implication x.0 y.0, y.1))
  implication_comes x behind e f = implication_is ∙ arrow_goes (disjunction_with (factor_at to (suc d))) (implication_at to d) (codes "=>") implication text behind x e f

  pub implication_goes : (x : Constraint A × List ℕ) (behind : List ℕ) → 0 < d → disjunction_with (factor_at to (suc d)) text ≡ Some x → after_mark (codes "=>") x.1 ≡ Some behind
      → implication_at to (suc d) text ≡ (implication_at to (suc (d - 1)) behind >>= λ y. Some (implication x.0 y.0, y.1))
  implication_goes x behind lt e f = implication_comes x behind e f ∙ ap (λ (k : ℕ). implication_at to k behind >>= λ y. Some (implication x.0 y.0, y.1)) (again_deep d lt)

  pub too_deep_implication : (x : Constraint A × List ℕ) (behind : List ℕ) → d ≡ 0 → disjunction_with (factor_at to (suc d)) text ≡ Some x → after_mark (codes "=>") x.1 ≡ Some behind → implication_at to (suc d) text ≡ None
  too_deep_implication x behind z e f = implication_comes x behind e f ∙ ap (λ (r : Read A). r >>= λ y. Some (implication x.0 y.0, y.1)) (no_implication to d behind z)

  -- likewise a rule
  pub rule_fails : implication_at to (suc d) text ≡ None → rule_at to (suc d) text ≡ None
  rule_fails e = rule_is ∙ arrow_fails (implication_at to (suc d)) (rule_at to d) (codes "<=>") equivalence text e

  pub rule_stops : (x : Constraint A × List ℕ) → implication_at to (suc d) text ≡ Some x → after_mark (codes "<=>") x.1 ≡ None → rule_at to (suc d) text ≡ Some x
  rule_stops x e f = rule_is ∙ arrow_stops (implication_at to (suc d)) (rule_at to d) (codes "<=>") equivalence text x e f

  rule_comes : (x : Constraint A × List ℕ) (behind : List ℕ) → implication_at to (suc d) text ≡ Some x → after_mark (codes "<=>") x.1 ≡ Some behind
      → rule_at to (suc d) text ≡ (rule_at to d behind >>= λ y. Some (equivalence x.0 y.0, y.1))
  rule_comes x behind e f = rule_is ∙ arrow_goes (implication_at to (suc d)) (rule_at to d) (codes "<=>") equivalence text behind x e f

  pub rule_goes : (x : Constraint A × List ℕ) (behind : List ℕ) → 0 < d → implication_at to (suc d) text ≡ Some x → after_mark (codes "<=>") x.1 ≡ Some behind
      → rule_at to (suc d) text ≡ (rule_at to (suc (d - 1)) behind >>= λ y. Some (equivalence x.0 y.0, y.1))
  rule_goes x behind lt e f = rule_comes x behind e f ∙ ap (λ (k : ℕ). rule_at to k behind >>= λ y. Some (equivalence x.0 y.0, y.1)) (again_deep d lt)

  pub too_deep_rule : (x : Constraint A × List ℕ) (behind : List ℕ) → d ≡ 0 → implication_at to (suc d) text ≡ Some x → after_mark (codes "<=>") x.1 ≡ Some behind → rule_at to (suc d) text ≡ None
  too_deep_rule x behind z e f = rule_comes x behind e f ∙ ap (λ (r : Read A). r >>= λ y. Some (equivalence x.0 y.0, y.1)) (no_rule to d behind z)
