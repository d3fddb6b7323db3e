-- The rules of a diagram, by their numbers, and an index of them by the features that they speak of. This project's
-- own.
use Rattle.std.specs.Prelude.{ℕ, ◌-◌, ◌≤◌, ◌≡◌, List, ◌∷◌, [], length, map, Some, slice_get, slice_index_or, Contains}
use Rattle.vpg_diagram.specs.declared.clause.Literal.{Literal}
use Rattle.vpg_diagram.specs.Tally.{Tally}

-- the unit rule at a clause, the counting rule at a count
pub data Rule : Type 0 where
  AtClause : List Literal → Rule
  AtCount : Tally → Rule

-- the clauses come first
abbrev pub HasNumber : List (List Literal) → List Tally → ℕ → Rule → Type 0
HasNumber clauses counts number (AtClause clause) = slice_get clauses number ≡ Some clause
HasNumber clauses counts number (AtCount count) =
    (length clauses ≤ number) × (slice_get counts (number - length clauses) ≡ Some count)

abbrev pub features_of : Rule → List ℕ
features_of (AtClause clause) = map (λ l. l.feature) clause
features_of (AtCount count) = count.parent ∷ count.members

-- for each feature, the numbers of the rules that speak of it, and perhaps others
abbrev pub IsIndex : List (List Literal) → List Tally → List (List ℕ) → Type 0
IsIndex clauses counts index =
    (number : ℕ) (rule : Rule) (f : ℕ) → HasNumber clauses counts number rule → Contains (features_of rule) f →
    Contains (slice_index_or index f []) number
