-- The one writing of a rule: parentheses stand only where the rule would else be read as another. This project's own.
use Rattle.std.specs.Prelude.{ℕ, List, [], ◌∷◌, ◌++◌, Bool, true, false, codes, nat_lt, slice_index_or}
use Rattle.vpg_rules.specs.Constraint.{Constraint, Parts, always, never, feature, negation, all, any, implication, equivalence, no_parts, part}

-- how closely the outermost operator binds
abbrev pub closeness : Constraint ℕ → ℕ
closeness always = 4
closeness never = 4
closeness (feature f) = 4
closeness (negation c) = 4
closeness (all cs) = 3
closeness (any cs) = 2
closeness (implication c d) = 1
closeness (equivalence c d) = 0

-- the text, in parentheses or not
abbrev pub enclosed_if : Bool → List ℕ → List ℕ
enclosed_if true text = 40 ∷ (text ++ 41 ∷ [])
enclosed_if false text = text

-- the one writing of a rule, where features have these names
abbrev mutual
  pub rule_text : List (List ℕ) → Constraint ℕ → List ℕ
  rule_text names always = codes "true"
  rule_text names never = codes "false"
  rule_text names (feature f) = slice_index_or names f []
  rule_text names (negation c) = 33 ∷ enclosed_if (nat_lt (closeness c) 4) (rule_text names c)
  rule_text names (all cs) = all_text names cs
  rule_text names (any cs) = any_text names cs
  rule_text names (implication c d) =
      enclosed_if (nat_lt (closeness c) 2) (rule_text names c) ++ codes " => "
      ++ enclosed_if (nat_lt (closeness d) 1) (rule_text names d)
  rule_text names (equivalence c d) =
      enclosed_if (nat_lt (closeness c) 1) (rule_text names c) ++ codes " <=> " ++ rule_text names d

  -- `true` if there are no parts
  pub all_text : List (List ℕ) → Parts ℕ → List ℕ
  all_text names no_parts = codes "true"
  all_text names (part c cs) = enclosed_if (nat_lt (closeness c) 4) (rule_text names c) ++ more_all_text names cs

  pub more_all_text : List (List ℕ) → Parts ℕ → List ℕ
  more_all_text names no_parts = []
  more_all_text names (part c cs) =
      codes " & " ++ enclosed_if (nat_lt (closeness c) 4) (rule_text names c) ++ more_all_text names cs

  -- `false` if there are no parts
  pub any_text : List (List ℕ) → Parts ℕ → List ℕ
  any_text names no_parts = codes "false"
  any_text names (part c cs) = enclosed_if (nat_lt (closeness c) 3) (rule_text names c) ++ more_any_text names cs

  pub more_any_text : List (List ℕ) → Parts ℕ → List ℕ
  more_any_text names no_parts = []
  more_any_text names (part c cs) =
      codes " | " ++ enclosed_if (nat_lt (closeness c) 3) (rule_text names c) ++ more_any_text names cs
