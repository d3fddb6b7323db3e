-- Tests of clauses.
use Rattle.std.proofs.Common.{◌≡◌, Bool, true, false, not, if◌then◌else◌, List, [], ◌∷◌, ◌⊎◌, inl, inr, refl}
use Rattle.std.specs.List.{list_any}
use Rattle.std.proofs.lemmas.Bool.{or_cases, or_left, or_right}
use Rattle.vpg_diagram.specs.FeatureDiagram.{chosen}
use Rattle.vpg_diagram.specs.Clauses.{is_true_in, MeetsClause}
use Rattle.vpg_diagram.specs.declared.clause.Literal.{Literal}

value_cases : (b v : Bool) → (if v then b else not b) ≡ true → b ≡ v
value_cases true true e = refl
value_cases false false e = refl
value_cases true false e = absurd (cc)
value_cases false true e = absurd (cc)

cases_value : (b v : Bool) → b ≡ v → (if v then b else not b) ≡ true
cases_value true true e = refl
cases_value false false e = refl
cases_value true false e = absurd (cc)
cases_value false true e = absurd (cc)

pub clause_from_test : (s : List Bool) (clause : List Literal) → list_any (λ l. is_true_in s l) clause ≡ true → MeetsClause s clause
clause_from_test s [] e = absurd (cc)
clause_from_test s (l ∷ ls) e = go (or_cases (is_true_in s l) (list_any (λ x. is_true_in s x) ls) e) (clause_from_test s ls)
  where
    go : (is_true_in s l ≡ true) ⊎ (list_any (λ x. is_true_in s x) ls ≡ true) → (list_any (λ x. is_true_in s x) ls ≡ true → MeetsClause s ls) → MeetsClause s (l ∷ ls)
    go (inl h) f = inl (value_cases (chosen s l.feature) l.value h)
    go (inr h) f = inr (f h)

pub test_from_clause : (s : List Bool) (clause : List Literal) → MeetsClause s clause → list_any (λ l. is_true_in s l) clause ≡ true
test_from_clause s [] m = absurd m
test_from_clause s (l ∷ ls) (inl h) = or_left (is_true_in s l) (list_any (λ x. is_true_in s x) ls) (cases_value (chosen s l.feature) l.value h)
test_from_clause s (l ∷ ls) (inr m) = or_right (is_true_in s l) (list_any (λ x. is_true_in s x) ls) (test_from_clause s ls m)
