-- What an index has of the rules of a diagram.
use Rattle.std.proofs.Common.{◌≡◌, ℕ, ◌+◌, ◌-◌, ◌<◌, ◌≤◌, List, [], length, get_or, Some, slice_get, Contains, ◌⊎◌, inl, inr, refl, sym, ap, ◌∙◌, subst, arith}
use Rattle.std.proofs.lemmas.Bool.{cases_lt}
use Rattle.std.proofs.lemmas.Option.{slice_get_within}
use Rattle.vpg_features.specs.Index.{NotesAlso}
use Rattle.vpg_diagram.specs.declared.clause.Literal.{Literal}
use Rattle.vpg_diagram.specs.Tally.{Tally}
use Rattle.vpg_diagram.specs.Rules.{Rule, AtClause, AtCount, HasNumber, features_of, IsIndex}

module _ (clauses : List (List Literal)) (counts : List Tally) (number : ℕ) where
  -- a number has one rule
  pub only_clause : (clause : List Literal) → slice_get clauses number ≡ Some clause → (rule : Rule) → HasNumber clauses counts number rule → AtClause clause ≡ rule
  only_clause clause e (AtClause other) h = let w : Some clause ≡ Some other = sym e ∙ h in let v : clause ≡ other = cc in ap AtClause v
  only_clause clause e (AtCount other) h = let l : number < length clauses = slice_get_within clauses number clause e in absurd (omega (arith, l, h.0))

  pub only_count : (count : Tally) → length clauses ≤ number → slice_get counts (number - length clauses) ≡ Some count → (rule : Rule) → HasNumber clauses counts number rule → AtCount count ≡ rule
  only_count count b e (AtClause other) h = let l : number < length clauses = slice_get_within clauses number other h in absurd (omega (arith, l, b))
  only_count count b e (AtCount other) h = let w : Some count ≡ Some other = sym e ∙ h.1 in let v : count ≡ other = cc in ap AtCount v

  pub no_rule : length clauses ≤ number → length counts ≤ number - length clauses → (rule : Rule) → HasNumber clauses counts number rule → ⊥
  no_rule a b (AtClause clause) h = let l : number < length clauses = slice_get_within clauses number clause h in omega (arith, l, a)
  no_rule a b (AtCount count) h = let l : number - length clauses < length counts = slice_get_within counts (number - length clauses) count h.1 in omega (arith, l, b)

-- the rules below a number are noted
abbrev pub IndexedBelow : List (List Literal) → List Tally → List (List ℕ) → ℕ → Type 0
IndexedBelow clauses counts index bound =
    (number : ℕ) (rule : Rule) (f : ℕ) → number < bound → HasNumber clauses counts number rule → Contains (features_of rule) f → Contains (get_or index f []) number

module _ (clauses : List (List Literal)) (counts : List Tally) where
  indexed_step : (old new : List (List ℕ)) (number : ℕ) (one : Rule) → IndexedBelow clauses counts old number → NotesAlso old number (features_of one) new →
      ((rule : Rule) → HasNumber clauses counts number rule → one ≡ rule) → IndexedBelow clauses counts new (number + 1)
  indexed_step old new number one below notes only k rule f l h c = go (cases_lt k number)
    where
      go : (k < number) ⊎ (number ≤ k) → Contains (get_or new f []) k
      go (inl b) = (notes.exact f k).1 (inl (below k rule f b h c))
      go (inr b) =
          let e : number ≡ k = omega arith in
          subst (λ (n : ℕ). Contains (get_or new f []) n) e
          ((notes.exact f number).1 (inr (refl, subst (λ (r : Rule). Contains (features_of r) f) (sym (only rule (subst (λ (n : ℕ). HasNumber clauses counts n rule) (sym e) h))) c)))

  pub indexed_clause : (old new : List (List ℕ)) (number : ℕ) (clause : List Literal) → IndexedBelow clauses counts old number → slice_get clauses number ≡ Some clause →
      NotesAlso old number (features_of (AtClause clause)) new → IndexedBelow clauses counts new (number + 1)
  indexed_clause old new number clause below e notes = indexed_step old new number (AtClause clause) below notes (only_clause clauses counts number clause e)

  pub indexed_count : (old new : List (List ℕ)) (place : ℕ) (count : Tally) → IndexedBelow clauses counts old (length clauses + place) → slice_get counts place ≡ Some count →
      NotesAlso old (length clauses + place) (features_of (AtCount count)) new → IndexedBelow clauses counts new (length clauses + (place + 1))
  indexed_count old new place count below e notes =
      let s : length clauses + place - length clauses ≡ place = omega arith in
      let t : length clauses + place + 1 ≡ length clauses + (place + 1) = omega arith in
      subst (λ (n : ℕ). IndexedBelow clauses counts new n) t
      (indexed_step old new (length clauses + place) (AtCount count) below notes
      (only_count clauses counts (length clauses + place) count (omega arith) (subst (λ (n : ℕ). slice_get counts n ≡ Some count) (sym s) e)))

  pub indexed_all : (index : List (List ℕ)) (bound : ℕ) → length counts ≤ bound → IndexedBelow clauses counts index (length clauses + bound) → IsIndex clauses counts index
  indexed_all index bound l below number (AtClause clause) f h c = let b : number < length clauses = slice_get_within clauses number clause h in below number (AtClause clause) f (omega (arith, b)) h c
  indexed_all index bound l below number (AtCount count) f h c = let b : number - length clauses < length counts = slice_get_within counts (number - length clauses) count h.1 in below number (AtCount count) f (omega (arith, b, h.0, l)) h c
