-- Rules of a line: their names, their truth and their clauses.
use Rattle.std.proofs.Common.{◌≡◌, ℕ, ◌<◌, ◌≤◌, Bool, true, false, not, ◌&&◌, nat_lt, List, [], ◌∷◌, length, map, Option, Some, None, slice_get, unwrap_or, ◌⊎◌, inl, inr, refl, sym, ap, ap₂, ◌∙◌, subst, arith}
use Rattle.std.specs.Prelude.{◌||◌}
use Rattle.std.specs.List.{AllByRecursion, list_all}
use Rattle.std.proofs.lemmas.Bool.{both_ways, ltb-true, lt-ltb}
use Rattle.std.proofs.lemmas.Option.{slice_get_within}
use Rattle.vpg_features.specs.Names.{index_of, AreDistinct}
use Rattle.vpg_features.proofs.Held.{index_of_held, index_of_found}
use Rattle.vpg_rules.specs.Constraint.{Constraint, Parts, always, never, feature, negation, all, any, implication, equivalence, no_parts, part, implies, equals, truth, all_true, any_true}
use Rattle.vpg_rules.specs.Clauses as rules
use Rattle.vpg_rules.specs.Grammar.{index_or_end}
use Rattle.vpg_rules.specs.declared.clause.Literal.{Literal}
use Rattle.vpg_diagram.specs.FeatureDiagram.{chosen, Has}
use Rattle.vpg_diagram.specs.Clauses.{literal_of, rule_clause, MeetsClause, IsClauseBelow}
use Rattle.vpg_diagram.specs.DiagramReading.{are_known}

-- ---- places of names

unwrapped : (o : Option ℕ) (i n : ℕ) → o ≡ Some i → unwrap_or o n ≡ i
unwrapped None i n e = absurd cc
unwrapped (Some k) i n e = cc

pub end_at : (names : List (List ℕ)) (word : List ℕ) (i : ℕ) → AreDistinct names → slice_get names i ≡ Some word → index_or_end names word ≡ i
end_at names word i distinct e = unwrapped (index_of names word) i (length names) (index_of_held names word i distinct e)

pub before_end : (names : List (List ℕ)) (word : List ℕ) → index_or_end names word < length names → slice_get names (index_or_end names word) ≡ Some word
before_end names word lt = go (index_of names word) refl lt
  where
    go : (o : Option ℕ) → index_of names word ≡ o → unwrap_or o (length names) < length names → slice_get names (unwrap_or o (length names)) ≡ Some word
    go None e lt = absurd (omega arith)
    go (Some i) e lt = index_of_found names word i e

and_split : (a b : Bool) → (a && b) ≡ true → (a ≡ true) × (b ≡ true)
and_split true b e = (refl, e)
and_split false b e = absurd cc

pub known_each : (names words : List (List ℕ)) → are_known names words ≡ true → AllByRecursion (λ w. index_or_end names w < length names) words
known_each names [] e = tt
known_each names (w ∷ ws) e =
    let h = and_split (nat_lt (index_or_end names w) (length names)) (are_known names ws) e in
    (ltb-true (index_or_end names w) (length names) h.0, known_each names ws h.1)

pub each_known : (names words : List (List ℕ)) → AllByRecursion (λ w. index_or_end names w < length names) words → are_known names words ≡ true
each_known names [] h = refl
each_known names (w ∷ ws) h = ap (λ t. t && are_known names ws) (lt-ltb (index_or_end names w) (length names) h.0) ∙ each_known names ws h.1

-- ---- truth

module _ (p q : ℕ → Bool) (same : (f : ℕ) → p f ≡ q f) where
  mutual
    pub truth_agrees : (c : Constraint ℕ) → truth p c ≡ truth q c
    truth_agrees always = refl
    truth_agrees never = refl
    truth_agrees (feature f) = same f
    truth_agrees (negation c) = ap not (truth_agrees c)
    truth_agrees (all cs) = all_agree cs
    truth_agrees (any cs) = any_agree cs
    truth_agrees (implication c d) = ap₂ implies (truth_agrees c) (truth_agrees d)
    truth_agrees (equivalence c d) = ap₂ equals (truth_agrees c) (truth_agrees d)

    all_agree : (cs : Parts ℕ) → all_true p cs ≡ all_true q cs
    all_agree no_parts = refl
    all_agree (part c cs) = ap₂ (λ a b. a && b) (truth_agrees c) (all_agree cs)

    any_agree : (cs : Parts ℕ) → any_true p cs ≡ any_true q cs
    any_agree no_parts = refl
    any_agree (part c cs) = ap₂ (λ a b. a || b) (truth_agrees c) (any_agree cs)

-- ---- clauses

module _ (s : List Bool) where
  literals_met : (ls : List Literal) → rules.MeetsClause (chosen s) ls → MeetsClause s (map literal_of ls)
  literals_met [] h = h
  literals_met (l ∷ ls) (inl h) = inl h
  literals_met (l ∷ ls) (inr h) = inr (literals_met ls h)

  met_literals : (ls : List Literal) → MeetsClause s (map literal_of ls) → rules.MeetsClause (chosen s) ls
  met_literals [] h = h
  met_literals (l ∷ ls) (inl h) = inl h
  met_literals (l ∷ ls) (inr h) = inr (met_literals ls h)

  clause_met : (ls : List Literal) → rules.MeetsClause (chosen s) ls → MeetsClause s (rule_clause ls)
  clause_met [] h = absurd h
  clause_met (l ∷ ls) h = literals_met (l ∷ ls) h

  root_out : MeetsClause s (rule_clause []) → chosen s 0 ≡ false
  root_out (inl h) = h
  root_out (inr h) = absurd h

  met_clause : Has s 0 → (ls : List Literal) → MeetsClause s (rule_clause ls) → rules.MeetsClause (chosen s) ls
  met_clause root [] h = both_ways (chosen s 0) (root_out h) root
  met_clause root (l ∷ ls) h = met_literals (l ∷ ls) h

  pub rule_clauses_met : (cs : List (List Literal)) → AllByRecursion (rules.MeetsClause (chosen s)) cs → AllByRecursion (MeetsClause s) (map rule_clause cs)
  rule_clauses_met [] h = tt
  rule_clauses_met (c ∷ cs) h = (clause_met c h.0, rule_clauses_met cs h.1)

  pub met_rule_clauses : Has s 0 → (cs : List (List Literal)) → AllByRecursion (MeetsClause s) (map rule_clause cs) → AllByRecursion (rules.MeetsClause (chosen s)) cs
  met_rule_clauses root [] h = tt
  met_rule_clauses root (c ∷ cs) h = (met_clause root c h.0, met_rule_clauses root cs h.1)

module _ (known n : ℕ) (some : 0 < known) (room : known ≤ n) where
  literals_below : (ls : List Literal) → AllByRecursion (λ l. l.feature < known) ls → AllByRecursion (λ l. l.feature < n) (map literal_of ls)
  literals_below [] h = tt
  literals_below (l ∷ ls) h = (omega (arith, h.0), literals_below ls h.1)

  clause_below : (ls : List Literal) → AllByRecursion (λ l. l.feature < known) ls → IsClauseBelow n (rule_clause ls)
  clause_below [] h = record { some = omega arith; below = (omega arith, tt) }
  clause_below (l ∷ ls) h = record { some = omega arith; below = literals_below (l ∷ ls) h }

  pub rule_clauses_below : (cs : List (List Literal)) → AllByRecursion (AllByRecursion (λ l. l.feature < known)) cs → AllByRecursion (IsClauseBelow n) (map rule_clause cs)
  rule_clauses_below [] h = tt
  rule_clauses_below (c ∷ cs) h = (clause_below c h.0, rule_clauses_below cs h.1)
