-- Which rule a text spells. `!` binds closest, then `&`, `|`, `=>` and `<=>`, as in the Universal Variability Language;
-- both arrows take as much as they can to their right. Words, names and blanks are those of guards. This project's own.
use Rattle.std.specs.Prelude.{◌≡◌, ℕ, zero, suc, List, [], ◌∷◌, ◌++◌, Bool, true, false, codes, length, unwrap_or}
use Rattle.vpg_features.specs.Names.{IsFeatureName, index_of}
use Rattle.vpg_guards.specs.Grammar.{AreBlank, constant_text}
use Rattle.vpg_rules.specs.Constraint.{Constraint, Parts, always, never, feature, negation, all, any, implication, equivalence, no_parts, part}

-- a rule over features that are given by their names
abbrev pub NamedRule : Type 0
NamedRule = Constraint (List ℕ)

-- which texts are which rule
abbrev pub Form : Type 1
Form = List ℕ → NamedRule → Type 0

abbrev pub constant_rule : {A : Type 0} → Bool → Constraint A
constant_rule true = always
constant_rule false = never

-- after any blanks: a constant, the name of a feature, `!` and a factor, or a rule in parentheses
pub data Factor (Inverted Enclosed : List ℕ → NamedRule → Type 0) : List ℕ → NamedRule → Type 0 where
  constant : (blanks : List ℕ) (b : Bool) → AreBlank blanks →
      Factor Inverted Enclosed (blanks ++ constant_text b) (constant_rule b)
  name : (blanks word : List ℕ) → AreBlank blanks → IsFeatureName word →
      Factor Inverted Enclosed (blanks ++ word) (feature word)
  inverted : (blanks : List ℕ) {text : List ℕ} {c : NamedRule} → AreBlank blanks → Inverted text c →
      Factor Inverted Enclosed (blanks ++ 33 ∷ text) (negation c)
  enclosed : (blanks after : List ℕ) {text : List ℕ} {c : NamedRule} → AreBlank blanks → Enclosed text c →
      AreBlank after → Factor Inverted Enclosed (blanks ++ 40 ∷ (text ++ after ++ 41 ∷ [])) c

-- the list with one more part at its end
abbrev pub added : {A : Type 0} → Parts A → Constraint A → Parts A
added no_parts d = part d no_parts
added (part c cs) d = part c (added cs d)

-- one item, or items, blanks, the mark and one more item
pub data Items (Item : List ℕ → NamedRule → Type 0) (mark : List ℕ) : List ℕ → Parts (List ℕ) → Type 0 where
  one : {text : List ℕ} {c : NamedRule} → Item text c → Items Item mark text (part c no_parts)
  more : (blanks : List ℕ) {text later : List ℕ} {cs : Parts (List ℕ)} {d : NamedRule} → Items Item mark text cs →
      AreBlank blanks → Item later d → Items Item mark (text ++ blanks ++ mark ++ later) (added cs d)

-- one constraint alone, or the list of several
abbrev pub alone_or : {A : Type 0} → (Parts A → Constraint A) → Parts A → Constraint A
alone_or make no_parts = make no_parts
alone_or make (part c no_parts) = c
alone_or make (part c (part d cs)) = make (part c (part d cs))

-- items joined by marks; one alone stands for itself
pub record Series (Item : List ℕ → NamedRule → Type 0) (mark : List ℕ) (make : Parts (List ℕ) → NamedRule)
    (text : List ℕ) (c : NamedRule) : Type 0 where
  pub parts : Parts (List ℕ)
  pub items : Items Item mark text parts
  pub stands : alone_or make parts ≡ c

-- an item, or an item, blanks, the arrow and its right side
pub data Arrow (Item Right : List ℕ → NamedRule → Type 0) (mark : List ℕ)
    (make : NamedRule → NamedRule → NamedRule) : List ℕ → NamedRule → Type 0 where
  plain : {text : List ℕ} {c : NamedRule} → Item text c → Arrow Item Right mark make text c
  arrow : (blanks : List ℕ) {text later : List ℕ} {c d : NamedRule} → Item text c → AreBlank blanks → Right later d →
      Arrow Item Right mark make (text ++ blanks ++ mark ++ later) (make c d)

-- factors joined by `&`, and these joined by `|`
abbrev pub Disjunction : Form → Form
Disjunction Item text c = Series (Series Item (codes "&") all) (codes "|") any text c

-- With fewer than this many signs open at one place: factors, texts without an outer `<=>`, and all rules. A `(` is
-- open until its `)`, a `!` until its factor ends, an arrow until its right side ends.
unfoldable mutual
  pub IsFactor : ℕ → List ℕ → NamedRule → Type 0
  IsFactor zero text c = ⊥
  IsFactor (suc n) text c = Factor (IsFactor n) (IsRule n) text c

  pub IsImplication : ℕ → List ℕ → NamedRule → Type 0
  IsImplication zero text c = ⊥
  IsImplication (suc n) text c =
      Arrow (Disjunction (Factor (IsFactor n) (IsRule n))) (IsImplication n) (codes "=>") implication text c

  pub IsRule : ℕ → List ℕ → NamedRule → Type 0
  IsRule zero text c = ⊥
  IsRule (suc n) text c =
      Arrow (Arrow (Disjunction (Factor (IsFactor n) (IsRule n))) (IsImplication n) (codes "=>") implication) (IsRule n)
      (codes "<=>") equivalence text c

-- the text spells the rule, with at most 64 `(`, `!`, `=>` and `<=>` open at one place
pub record Spells (text : List ℕ) (c : NamedRule) : Type 0 where
  pub rule : List ℕ
  pub blanks : List ℕ
  pub blank : AreBlank blanks
  pub parts : text ≡ rule ++ blanks
  pub is : IsRule 65 rule c

-- the index of a name, or the number of names if it is not among them
abbrev pub index_or_end : List (List ℕ) → List ℕ → ℕ
index_or_end names word = unwrap_or (index_of names word) (length names)
