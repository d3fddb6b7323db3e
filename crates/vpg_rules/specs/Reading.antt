-- Reading a rule from left to right, as a function on lists, for private contracts. It is proved to read exactly the
-- texts that spell a rule (Grammar). What stands for a feature in the rule that is read, is a function of its name: the
-- name, or an index. This project's own.
use Rattle.std.specs.Prelude.{◌≡◌, ℕ, zero, suc, ◌&&◌, List, [], ◌∷◌, length, take, drop, Bool, Option, Some, None, Result, Ok, Err, ◌==◌, if◌then◌else◌, codes, is_none, nat_le}
use Rattle.std.specs.List.{list_all, prefix_len}
use Rattle.vpg_features.specs.Names.{starts_as_name, is_name_byte, constant_of}
use Rattle.vpg_guards.specs.Reading.{◌>>=◌, after_blanks}
use Rattle.vpg_rules.specs.declared.fault.RuleFault.{RuleFault}
use Rattle.vpg_rules.specs.declared.fault.RuleFault.TheVariants as faults
use Rattle.vpg_rules.specs.Constraint.{Constraint, Parts, feature, negation, all, any, implication, equivalence, no_parts, part}
use Rattle.vpg_rules.specs.Grammar.{NamedRule, constant_rule, added, alone_or}

-- a constraint and the text after it, if one stands there
abbrev pub Read : Type 0 → Type 0
Read A = Option (Constraint A × List ℕ)

-- the text after the mark at its front
abbrev pub stripped : List ℕ → List ℕ → Option (List ℕ)
stripped [] text = Some text
stripped (m ∷ mark) [] = None
stripped (m ∷ mark) (b ∷ text) = if b == m then stripped mark text else None

-- the text after the mark, if the mark comes next
abbrev pub after_mark : List ℕ → List ℕ → Option (List ℕ)
after_mark mark text = stripped mark (after_blanks text)

-- the test for a feature name
abbrev pub is_feature_name : List ℕ → Bool
is_feature_name w = starts_as_name w && list_all is_name_byte w && nat_le (length w) 64 && is_none (constant_of w)

-- the constraint that one word stands for
abbrev pub constant_or : {A : Type 0} → Option Bool → Option (Constraint A) → Option (Constraint A)
constant_or None named = named
constant_or (Some b) named = Some (constant_rule b)

abbrev pub word_rule : {A : Type 0} → (List ℕ → A) → List ℕ → Option (Constraint A)
word_rule to word = constant_or (constant_of word) (if is_feature_name word then Some (feature (to word)) else None)

unfoldable pub word_at : {A : Type 0} → (List ℕ → A) → List ℕ → Read A
word_at to text = do
  c ← word_rule to (take (prefix_len is_name_byte text) text)
  Some (c, drop (prefix_len is_name_byte text) text)

-- what comes after a mark, if the mark is there
abbrev pub choice : {A : Type 0} → Option (List ℕ) → (List ℕ → Option A) → Option A → Option A
choice None behind otherwise = otherwise
choice (Some rest) behind otherwise = behind rest

-- One more item after each mark. The number bounds the turns: the length of the text is always enough.
unfoldable pub more : {A : Type 0} → (List ℕ → Read A) → List ℕ → ℕ → Parts A → List ℕ → Option (Parts A × List ℕ)
more item mark zero cs text = Some (cs, text)
more item mark (suc n) cs text =
    choice (after_mark mark text) (λ rest. item rest >>= λ x. more item mark n (added cs x.0) x.1)
    (Some (cs, text))

abbrev pub made : {A : Type 0} → (Parts A → Constraint A) → Option (Parts A × List ℕ) → Read A
made make read = read >>= λ x. Some (alone_or make x.0, x.1)

-- items joined by marks
unfoldable pub series_at : {A : Type 0} → (List ℕ → Read A) → List ℕ → (Parts A → Constraint A) → List ℕ → Read A
series_at item mark make text = item text >>= λ x. made make (more item mark (length x.1) (part x.0 no_parts) x.1)

-- an item, and perhaps an arrow and its right side
unfoldable pub arrow_at : {A : Type 0} → (item right : List ℕ → Read A) → List ℕ →
    (Constraint A → Constraint A → Constraint A) → List ℕ → Read A
arrow_at item right mark make text =
    item text >>= λ x. choice (after_mark mark x.1) (λ rest. right rest >>= λ y. Some (make x.0 y.0, y.1)) (Some x)

abbrev pub conjunction_with : {A : Type 0} → (List ℕ → Read A) → List ℕ → Read A
conjunction_with factor = series_at factor (codes "&") all

abbrev pub disjunction_with : {A : Type 0} → (List ℕ → Read A) → List ℕ → Read A
disjunction_with factor = series_at (conjunction_with factor) (codes "|") any

abbrev pub close : {A : Type 0} → Constraint A → Option (List ℕ) → Read A
close c None = None
close c (Some rest) = Some (c, rest)

abbrev pub enclosed_with : {A : Type 0} → (List ℕ → Read A) → List ℕ → Read A
enclosed_with rule rest = rule rest >>= λ x. close x.0 (after_mark (codes ")") x.1)

abbrev pub inverted_with : {A : Type 0} → (List ℕ → Read A) → List ℕ → Read A
inverted_with factor rest = factor rest >>= λ x. Some (negation x.0, x.1)

-- a factor: what comes after `!` or after `(`, or a word
abbrev pub factor_with : {A : Type 0} → (List ℕ → A) → (factor rule : List ℕ → Read A) → List ℕ → Read A
factor_with to factor rule text =
    choice (after_mark (codes "!") text) (inverted_with factor)
    (choice (after_mark (codes "(") text) (enclosed_with rule) (word_at to (after_blanks text)))

-- factors, implications and rules in which fewer than n signs are open at one place
unfoldable mutual
  pub factor_at : {A : Type 0} → (List ℕ → A) → ℕ → List ℕ → Read A
  factor_at to zero text = None
  factor_at to (suc n) text = factor_with to (factor_at to n) (rule_at to n) text

  pub implication_at : {A : Type 0} → (List ℕ → A) → ℕ → List ℕ → Read A
  implication_at to zero text = None
  implication_at to (suc n) text =
      arrow_at (disjunction_with (factor_with to (factor_at to n) (rule_at to n))) (implication_at to n)
      (codes "=>") implication text

  pub rule_at : {A : Type 0} → (List ℕ → A) → ℕ → List ℕ → Read A
  rule_at to zero text = None
  rule_at to (suc n) text =
      arrow_at (arrow_at (disjunction_with (factor_with to (factor_at to n) (rule_at to n)))
      (implication_at to n) (codes "=>") implication) (rule_at to n) (codes "<=>") equivalence text

abbrev pub if_blank : {A : Type 0} → Constraint A → List ℕ → Option (Constraint A)
if_blank c [] = Some c
if_blank c (b ∷ rest) = None

-- the rule that a whole text is
abbrev pub whole_at : {A : Type 0} → (List ℕ → A) → List ℕ → Option (Constraint A)
whole_at to text = rule_at to 65 text >>= λ x. if_blank x.0 (after_blanks x.1)

-- the rule that a whole text is, over names
abbrev pub named_rule_at : List ℕ → Option NamedRule
named_rule_at text = whole_at (λ word. word) text

-- A function's result, seen by view, is the result of reading, unless memory ran out.
abbrev pub Fails : {Y : Type 0} → RuleFault → Option Y → Type 0
Fails faults.Memory read = Unit {0}
Fails (faults.Syntax at) read = read ≡ None
Fails (faults.TooDeep at) read = read ≡ None

abbrev pub Gives : {X Y : Type 0} → (X → Y) → Result X RuleFault → Option Y → Type 0
Gives view (Ok x) read = read ≡ Some (view x)
Gives view (Err e) read = Fails e read

-- the place that a fault tells, unless memory ran out
abbrev pub IsToldAt : ℕ → RuleFault → Type 0
IsToldAt place faults.Memory = Unit {0}
IsToldAt place (faults.Syntax at) = at ≡ place
IsToldAt place (faults.TooDeep at) = at ≡ place
