-- The clauses of a rule: its conjunctive normal form by distribution (Enderton, A Mathematical Introduction to Logic).
-- Arrows are eliminated, negations go inwards, and `|` is distributed over `&`. A literal that would stand twice in a
-- clause stands once, at its first place. A clause with a feature and its negation stays, so the number of clauses
-- follows from the rule's operators and constants alone.
use Rattle.std.specs.Prelude.{◌≡◌, Bool, true, false, not, ◌&&◌, ◌==◌, List, [], ◌∷◌, ◌++◌, map, filter, flat_map, ◌⊎◌, ℕ, length, if◌then◌else◌}
use Rattle.std.specs.List.{list_any}
use Rattle.vpg_rules.specs.Constraint.{Constraint, Parts, always, never, feature, negation, all, any, implication, equivalence, no_parts, part, renamed}
use Rattle.vpg_rules.specs.declared.clause.Literal.{Literal}

-- the literal is true where the test says which features are in
abbrev pub IsTrueIn : (ℕ → Bool) → Literal → Type 0
IsTrueIn chosen l = chosen l.feature ≡ l.value

-- some literal of the clause is true
abbrev pub MeetsClause : (ℕ → Bool) → List Literal → Type 0
MeetsClause chosen [] = ⊥
MeetsClause chosen (l ∷ ls) = IsTrueIn chosen l ⊎ MeetsClause chosen ls

-- whether two literals are the same
abbrev pub is_same : Literal → Literal → Bool
is_same k l = k.feature == l.feature && (if k.value then l.value else not l.value)

-- whether a clause has a literal
abbrev pub has : List Literal → Literal → Bool
has clause l = list_any (λ k. is_same k l) clause

-- the `or` of two clauses: the literals of the first, and those of the second that are not among them
abbrev pub joined : List Literal → List Literal → List Literal
joined first second = first ++ filter (λ l. not (has first l)) second

-- the `or` of two lists of clauses: of each clause of the first with each of the second
abbrev pub crossed : List (List Literal) → List (List Literal) → List (List Literal)
crossed firsts seconds = flat_map (λ first. map (joined first) seconds) firsts

-- the one clause that is never met
abbrev pub no_way : List (List Literal)
no_way = [] ∷ []

-- the clauses that the constraint has this value
abbrev mutual
  pub clauses_when : Bool → Constraint ℕ → List (List Literal)
  clauses_when true always = []
  clauses_when false always = no_way
  clauses_when true never = no_way
  clauses_when false never = []
  clauses_when b (feature f) = (record { feature = f; value = b } ∷ []) ∷ []
  clauses_when b (negation c) = clauses_when (not b) c
  clauses_when true (all cs) = each_when true cs
  clauses_when false (all cs) = some_when false cs
  clauses_when true (any cs) = some_when true cs
  clauses_when false (any cs) = each_when false cs
  clauses_when true (implication c d) = crossed (clauses_when false c) (clauses_when true d)
  clauses_when false (implication c d) = clauses_when true c ++ clauses_when false d
  clauses_when true (equivalence c d) =
      crossed (clauses_when false c) (clauses_when true d) ++ crossed (clauses_when true c) (clauses_when false d)
  clauses_when false (equivalence c d) =
      crossed (clauses_when true c) (clauses_when true d) ++ crossed (clauses_when false c) (clauses_when false d)

  -- the clauses that each part has the value
  pub each_when : Bool → Parts ℕ → List (List Literal)
  each_when b no_parts = []
  each_when b (part c cs) = clauses_when b c ++ each_when b cs

  -- the clauses that some part has the value
  pub some_when : Bool → Parts ℕ → List (List Literal)
  some_when b no_parts = no_way
  some_when b (part c cs) = crossed (clauses_when b c) (some_when b cs)

-- the clauses of a rule
abbrev pub clauses_of : Constraint ℕ → List (List Literal)
clauses_of c = clauses_when true c

-- how many clauses a rule has, whichever features it names
abbrev pub clause_count : {A : Type 0} → Constraint A → ℕ
clause_count c = length (clauses_of (renamed (λ _. 0) c))
