-- Which words are a formula: mCRL2's grammar of state formulas, without data, with this project's words. `!`,
-- modalities and words bind closest, then `&&`, `||`, and `=>`, which associates to the right. A fixpoint is as long as
-- it can be.
use Rattle.std.specs.Prelude.{◌≡◌, ℕ, zero, suc, List, [], ◌∷◌, ◌++◌, true, codes, Some}
use Rattle.vpg_formula.specs.Words.{words_of}
use Rattle.vpg_formula.specs.Regular.{Regular, is_action}
use Rattle.vpg_formula.specs.RegularGrammar.{IsOperand, IsRegular, Series}
use Rattle.vpg_formula.specs.Written.{Prefix, again_and_again, after, Fixpoint, Written, deadlock_free, binding, Modality, closing, along, is_variable, leaf, deadlock, of_action, parenthesis, in_front, modality, again, after_action, binder, head_of, Phrase, whole, behind, conjunction_of, disjunction_of, implication_of}

-- which words are which phrase
abbrev pub PhraseForm : Type 1
PhraseForm = List (List ℕ) → Phrase → Type 0

-- an action formula after `can`, `will` or `after`: an action, `true`, `false`, `!` and an action formula, or one in
-- parentheses
pub record IsAction (d : ℕ) (words : List (List ℕ)) (x : Regular) : Type 0 where
  pub operand : IsOperand d words x
  pub action : is_action x ≡ true

-- An operand, by its first word: a leaf, an action after `can` or `will`, a formula in parentheses, or a fixpoint. Or
-- it is an operand after a word, a modality or an action. The parts inside have forms of their own.
pub data Part (Path Action : List (List ℕ) → Regular → Type 0) (Inner Formula : List (List ℕ) → Phrase → Type 0) :
    List (List ℕ) → Phrase → Type 0 where
  at_leaf : {w : List ℕ} {f : Written} → head_of w ≡ leaf f → Part Path Action Inner Formula (w ∷ []) (whole f)
  at_deadlock : {w : List ℕ} → head_of w ≡ deadlock →
      Part Path Action Inner Formula (w ∷ codes "free" ∷ []) (whole deadlock_free)
  at_action : {w : List ℕ} {ws : List (List ℕ)} {make : Regular → Written} {x : Regular} → head_of w ≡ of_action make →
      Action ws x → Part Path Action Inner Formula (w ∷ ws) (whole (make x))
  at_parenthesis : {w : List ℕ} {ws : List (List ℕ)} {p : Phrase} → head_of w ≡ parenthesis → Formula ws p →
      Part Path Action Inner Formula (w ∷ (ws ++ codes ")" ∷ [])) (whole p.written)
  at_front : {w : List ℕ} {ws : List (List ℕ)} {prefix : Prefix} {p : Phrase} → head_of w ≡ in_front prefix →
      Inner ws p →
      Part Path Action Inner Formula (w ∷ ws) (behind prefix p)
  at_modality : {w : List ℕ} {us ws : List (List ℕ)} {m : Modality} {x : Regular} {p : Phrase} →
      head_of w ≡ modality m → Path us x → Inner ws p →
      Part Path Action Inner Formula (w ∷ (us ++ closing m ∷ ws)) (behind (along m x) p)
  at_again : {w : List ℕ} {ws : List (List ℕ)} {p : Phrase} → head_of w ≡ again → Inner ws p →
      Part Path Action Inner Formula (w ∷ codes "and" ∷ codes "again" ∷ ws) (behind again_and_again p)
  at_after : {w : List ℕ} {us ws : List (List ℕ)} {x : Regular} {p : Phrase} → head_of w ≡ after_action → Action us x →
      Inner ws p → Part Path Action Inner Formula (w ∷ (us ++ ws)) (behind (after x) p)
  at_binder : {w x : List ℕ} {ws : List (List ℕ)} {kind : Fixpoint} {p : Phrase} → head_of w ≡ binder kind →
      is_variable x ≡ true → Formula ws p →
      Part Path Action Inner Formula (w ∷ x ∷ codes "." ∷ ws)
      (record { written = binding kind x p.written; is_endless = true })

-- the levels over operands
abbrev pub Conjunction : PhraseForm → PhraseForm
Conjunction Item ws p = Series Item (codes "&&") conjunction_of ws p

abbrev pub Disjunction : PhraseForm → PhraseForm
Disjunction Item ws p = Series (Conjunction Item) (codes "||") disjunction_of ws p

-- a disjunction, or one, `=>` and a formula
pub data Implication (Item Formula : List (List ℕ) → Phrase → Type 0) : List (List ℕ) → Phrase → Type 0 where
  plain : {ws : List (List ℕ)} {p : Phrase} → Item ws p → Implication Item Formula ws p
  implies : {us ws : List (List ℕ)} {p q r : Phrase} → Item us p → Formula ws q → implication_of p q ≡ Some r →
      Implication Item Formula (us ++ codes "=>" ∷ ws) r

abbrev pub NoPath : List (List ℕ) → Regular → Type 0
NoPath ws x = ⊥

abbrev pub NoPhrase : List (List ℕ) → Phrase → Type 0
NoPhrase ws p = ⊥

-- how much of a formula: an operand, or all of it
pub data Extent : Type 0 where
  an_operand : Extent
  a_formula : Extent

-- Operands and formulas with at most this many parts open at one place. `(`, `!`, `<`, `[`, `mu`, `nu`, `=>` and the
-- words are open until their part ends.
unfoldable pub IsPhrase : Extent → ℕ → List (List ℕ) → Phrase → Type 0
IsPhrase an_operand zero ws p = Part NoPath NoPath NoPhrase NoPhrase ws p
IsPhrase a_formula zero ws p = Implication (Disjunction (Part NoPath NoPath NoPhrase NoPhrase)) NoPhrase ws p
IsPhrase an_operand (suc d) ws p = Part (IsRegular d) (IsAction d) (IsPhrase an_operand d) (IsPhrase a_formula d) ws p
IsPhrase a_formula (suc d) ws p =
    Implication (Disjunction (Part (IsRegular d) (IsAction d) (IsPhrase an_operand d) (IsPhrase a_formula d)))
    (IsPhrase a_formula d) ws p

-- formulas with at most this many parts open at one place
abbrev pub IsFormula : ℕ → List (List ℕ) → Phrase → Type 0
IsFormula d ws p = IsPhrase a_formula d ws p

-- the text spells the formula, with at most 64 parts open at one place
abbrev pub SpellsFormula : List ℕ → Phrase → Type 0
SpellsFormula text p = IsFormula 64 (words_of text) p
