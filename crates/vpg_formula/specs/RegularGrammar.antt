-- Which words are a regular formula: mCRL2's grammar of action and regular formulas, without data. `!` binds closest,
-- then `&&`, `||`, `*` and `+` after a formula, `.`, and `+` between two.
use Rattle.std.specs.Prelude.{◌≡◌, ℕ, zero, suc, List, [], ◌∷◌, ◌++◌, codes, Option, Some}
use Rattle.vpg_formula.specs.Regular.{Regular, repeated, repeated_once, word_formula, complement_of, all_of, any_of, sequence_of, choice_of}
use Rattle.vpg_formula.specs.Words.{words_of}

-- which words are which formula
abbrev pub Form : Type 1
Form = List (List ℕ) → Regular → Type 0

-- a word, `!` and an operand, or a formula in parentheses; the parts inside have forms of their own
pub data Operand (Inverted Enclosed : List (List ℕ) → Regular → Type 0) : List (List ℕ) → Regular → Type 0 where
  word : {w : List ℕ} {x : Regular} → word_formula w ≡ Some x → Operand Inverted Enclosed (w ∷ []) x
  inverted : {ws : List (List ℕ)} {x y : Regular} → Inverted ws x → complement_of x ≡ Some y →
      Operand Inverted Enclosed (codes "!" ∷ ws) y
  enclosed : {ws : List (List ℕ)} {x : Regular} → Enclosed ws x →
      Operand Inverted Enclosed (codes "(" ∷ (ws ++ codes ")" ∷ [])) x

-- one item, or a series, the sign and an item, if the two can be joined
pub data Series {A : Type 0} (Item : List (List ℕ) → A → Type 0) (sign : List ℕ) (join : A → A → Option A) :
    List (List ℕ) → A → Type 0 where
  one : {ws : List (List ℕ)} {x : A} → Item ws x → Series Item sign join ws x
  more : {us ws : List (List ℕ)} {x y z : A} → Series Item sign join us x → Item ws y → join x y ≡ Some z →
      Series Item sign join (us ++ sign ∷ ws) z

-- one item, and any number of `*` and `+` after it
pub data Starred (Item : List (List ℕ) → Regular → Type 0) : List (List ℕ) → Regular → Type 0 where
  plain : {ws : List (List ℕ)} {x : Regular} → Item ws x → Starred Item ws x
  star : {ws : List (List ℕ)} {x : Regular} → Starred Item ws x → Starred Item (ws ++ codes "*" ∷ []) (repeated x)
  plus : {ws : List (List ℕ)} {x : Regular} → Starred Item ws x → Starred Item (ws ++ codes "+" ∷ []) (repeated_once x)

-- the levels over operands
abbrev pub AllOf : Form → Form
AllOf Item ws x = Series Item (codes "&&") all_of ws x

abbrev pub AnyOf : Form → Form
AnyOf Item ws x = Series (AllOf Item) (codes "||") any_of ws x

abbrev pub Repetition : Form → Form
Repetition Item ws x = Starred (AnyOf Item) ws x

abbrev pub Sequence : Form → Form
Sequence Item ws x = Series (Repetition Item) (codes ".") sequence_of ws x

abbrev pub Choice : Form → Form
Choice Item ws x = Series (Sequence Item) (codes "+") choice_of ws x

abbrev pub Nothing : Form
Nothing ws x = ⊥

-- operands with at most this many `(` and `!` open at one place
unfoldable pub IsOperand : ℕ → List (List ℕ) → Regular → Type 0
IsOperand zero ws x = Operand Nothing Nothing ws x
IsOperand (suc d) ws x = Operand (IsOperand d) (Choice (IsOperand d)) ws x

-- regular formulas with at most this many open
abbrev pub IsRegular : ℕ → List (List ℕ) → Regular → Type 0
IsRegular d ws x = Choice (IsOperand d) ws x

-- the text spells the regular formula, with at most 64 `(` and `!` open at one place
abbrev pub SpellsRegular : List ℕ → Regular → Type 0
SpellsRegular text x = IsRegular 64 (words_of text) x
