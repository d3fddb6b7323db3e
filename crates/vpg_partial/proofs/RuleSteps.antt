-- Rules by their numbers, and what is done of a worklist.
use Rattle.std.proofs.Common.{◌≡◌, ℕ, ◌-◌, ◌<◌, ◌≤◌, List, [], ◌∷◌, length, map, Option, Some, None, slice_get, Contains, IfSome, IfNone, ◌⊎◌, inl, inr, sym, ap, ◌∙◌, subst, arith}
use Rattle.std.proofs.lemmas.Option.{slice_get_within}
use Rattle.vpg_diagram.specs.declared.clause.Literal.{Literal}
use Rattle.vpg_diagram.specs.Tally.{Tally}
use Rattle.vpg_guards.specs.declared.tri.Tri.{Tri}
use Rattle.vpg_diagram.proofs.Lists.{Contains-here, Contains-there, Contains-cons, Contains-nil, All-at}
use Rattle.vpg_diagram.proofs.IndexLemmas.{only_clause, only_count}
use Rattle.vpg_partial.specs.Known.{IsClosedAtClause, IsClosedAtCount}
use Rattle.vpg_partial.specs.KnownTable.{literals_in}
use Rattle.vpg_partial.specs.Propagation.{IsMissingAtClause, IsMissingAtCount}
use Rattle.vpg_partial.specs.Rules.{Rule, AtClause, AtCount, HasNumber, features_of, IsClosedAt, IsMissing}

pub Contains-map : {X Y : Type 0} (f : X → Y) (xs : List X) (x : X) → Contains xs x → Contains (map f xs) (f x)
Contains-map f [] x h = absurd (Contains-nil x h)
Contains-map f (y ∷ ys) x h = go (Contains-cons y ys x h) (Contains-map f ys x)
  where
    go : (y ≡ x) ⊎ Contains ys x → (Contains ys x → Contains (map f ys) (f x)) → Contains (f y ∷ map f ys) (f x)
    go (inl e) k = subst (λ z. Contains (f y ∷ map f ys) (f z)) e (Contains-here (f y) (map f ys))
    go (inr c) k = Contains-there (f y) (map f ys) (f x) (k c)

module _ (clauses : List (List Literal)) (counts : List Tally) (number : ℕ) where
  pub no_rule : length clauses ≤ number → length counts ≤ number - length clauses → (rule : Rule) → HasNumber clauses counts number rule → ⊥
  no_rule a b (AtClause clause) h = let l : number < length clauses = slice_get_within clauses number clause h in omega (arith, l, a)
  no_rule a b (AtCount count) h = let l : number - length clauses < length counts = slice_get_within counts (number - length clauses) count h.1 in omega (arith, l, b)

module _ (clauses : List (List Literal)) (counts : List Tally) (known : List Tri) (number : ℕ) where
  -- what a rule adds, at its number
  pub missing_by_clause : (clause : List Literal) (r : Option Literal) → slice_get clauses number ≡ Some clause → IfSome r (IsMissingAtClause clause known) → IfSome r (IsMissing clauses counts known)
  missing_by_clause clause None e m = tt
  missing_by_clause clause (Some l) e m = record {
    below = m.below;
    absent = m.absent;
    follows = λ set closed within. m.follows set (All-at (IsClosedAtClause set) clauses number clause closed.at_clauses e) within;
  }

  pub mentioned_by_clause : (clause : List Literal) (r : Option Literal) → slice_get clauses number ≡ Some clause → IfSome r (IsMissingAtClause clause known) →
      IfSome r (λ l. (rule : Rule) → HasNumber clauses counts number rule → Contains (features_of rule) l.feature)
  mentioned_by_clause clause None e m = tt
  mentioned_by_clause clause (Some l) e m = λ rule h. subst (λ (x : Rule). Contains (features_of x) l.feature) (only_clause clauses counts number clause e rule h) (Contains-map (λ (x : Literal). x.feature) clause l m.mentioned)

  pub closed_by_clause : (clause : List Literal) (r : Option Literal) → slice_get clauses number ≡ Some clause → IfNone r (IsClosedAtClause (literals_in known) clause) →
      IfNone r ((rule : Rule) → HasNumber clauses counts number rule → IsClosedAt (literals_in known) rule)
  closed_by_clause clause (Some l) e c = tt
  closed_by_clause clause None e c = λ rule h. subst (IsClosedAt (literals_in known)) (only_clause clauses counts number clause e rule h) c

  pub missing_by_count : (count : Tally) (r : Option Literal) → slice_get counts (number - length clauses) ≡ Some count → IfSome r (IsMissingAtCount count known) → IfSome r (IsMissing clauses counts known)
  missing_by_count count None e m = tt
  missing_by_count count (Some l) e m = record {
    below = m.below;
    absent = m.absent;
    follows = λ set closed within. m.follows set (All-at (IsClosedAtCount set) counts (number - length clauses) count closed.at_counts e) within;
  }

  pub mentioned_by_count : (count : Tally) (r : Option Literal) → length clauses ≤ number → slice_get counts (number - length clauses) ≡ Some count → IfSome r (IsMissingAtCount count known) →
      IfSome r (λ l. (rule : Rule) → HasNumber clauses counts number rule → Contains (features_of rule) l.feature)
  mentioned_by_count count None b e m = tt
  mentioned_by_count count (Some l) b e m = λ rule h. subst (λ (x : Rule). Contains (features_of x) l.feature) (only_count clauses counts number count b e rule h) m.mentioned

  pub closed_by_count : (count : Tally) (r : Option Literal) → length clauses ≤ number → slice_get counts (number - length clauses) ≡ Some count → IfNone r (IsClosedAtCount (literals_in known) count) →
      IfNone r ((rule : Rule) → HasNumber clauses counts number rule → IsClosedAt (literals_in known) rule)
  closed_by_count count (Some l) b e c = tt
  closed_by_count count None b e c = λ rule h. subst (IsClosedAt (literals_in known)) (only_count clauses counts number count b e rule h) c
