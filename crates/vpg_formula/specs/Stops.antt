-- Where a formula stops. This project's own.
use Rattle.std.specs.Prelude.{◌≡◌, ℕ, ◌+◌, List, [], ◌∷◌, ◌++◌, length, Bool, true, false, codes, bytes_eq}
use Rattle.vpg_formula.specs.Written.{Phrase}
use Rattle.vpg_formula.specs.FormulaGrammar.{IsFormula}

-- these words, and some after them, are a formula with at most this many open parts
pub record CanGoOn (d : ℕ) (ws : List (List ℕ)) : Type 0 where
  pub more : List (List ℕ)
  pub phrase : Phrase
  pub formula : IsFormula d (ws ++ more) phrase

-- whether a formula ends in front of these words: an entry's in front of `;`, one alone at the text's end
abbrev pub ends_formula : Bool → List (List ℕ) → Bool
ends_formula true [] = false
ends_formula true (w ∷ ws) = bytes_eq w (codes ";")
ends_formula false [] = true
ends_formula false (w ∷ ws) = false

-- After this many words, which can go on to a formula, comes one with which no formula goes on, however many parts may
-- be open, or no word. If a formula would end there, these words are no formula.
pub record IsStuckAt (in_entry : Bool) (ws : List (List ℕ)) (k : ℕ) : Type 0 where
  pub front : List (List ℕ)
  pub rest : List (List ℕ)
  pub parts : ws ≡ front ++ rest
  pub count : k ≡ length front
  pub goes_on : CanGoOn 64 front
  pub stuck : (w : List ℕ) (behind : List (List ℕ)) → rest ≡ w ∷ behind → (more : ℕ) →
      CanGoOn (64 + more) (front ++ w ∷ []) → ⊥
  pub unfinished : ends_formula in_entry rest ≡ true → (p : Phrase) → IsFormula 64 front p → ⊥

-- After this many words, which can go on to a formula with at most 64 open parts, comes one with which they cannot.
-- With it they can go on to a formula with at most 65.
pub record IsTooDeepIn (ws : List (List ℕ)) (k : ℕ) : Type 0 where
  pub front : List (List ℕ)
  pub word : List ℕ
  pub behind : List (List ℕ)
  pub parts : ws ≡ front ++ word ∷ behind
  pub count : k ≡ length front
  pub goes_on : CanGoOn 64 front
  pub stuck : CanGoOn 64 (front ++ word ∷ []) → ⊥
  pub deeper : CanGoOn 65 (front ++ word ∷ [])
