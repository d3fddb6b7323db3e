-- Statements of the laws.
use Rattle.std.specs.Prelude.{◌≡◌, ℕ, List, Bool, ◌↔◌}
use Rattle.std.specs.List.{AllByRecursion}
use Rattle.vpg_rules.specs.Constraint.{Constraint, IsMet}
use Rattle.vpg_rules.specs.Clauses.{clauses_of, MeetsClause}
use Rattle.vpg_rules.specs.Grammar.{NamedRule, Spells}

-- a set of features meets a rule exactly if it meets each of its clauses
abbrev pub ClausesMeanTheRule : Type 0
ClausesMeanTheRule =
    (c : Constraint ℕ) (chosen : ℕ → Bool) → IsMet c chosen ↔ AllByRecursion (MeetsClause chosen) (clauses_of c)

-- a text spells one rule at most
abbrev pub TextsSpellOneRule : Type 0
TextsSpellOneRule =
    (text : List ℕ) (c d : NamedRule) → Spells text c → Spells text d → c ≡ d
