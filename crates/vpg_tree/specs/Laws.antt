-- Statements of the laws.
use Rattle.std.specs.Prelude.{◌≡◌, ℕ, suc, max, ◌≤◌, Bool, true, false, List, ◌↔◌, length, nat_lt, ⊤}
use Rattle.std.specs.List.{AllByRecursion}
use Rattle.vpg_features.specs.Names.{AreNames}
use Rattle.vpg_rules.specs.Constraint.{Constraint, Parts, always, never, feature, negation, all, any, implication, equivalence, no_parts, part, renamed, IsBelow}
use Rattle.vpg_rules.specs.Grammar.{NamedRule, Spells, index_or_end}
use Rattle.vpg_tree.specs.Tree.{Tree, IsConfiguration}
use Rattle.vpg_tree.specs.Lines.{Has, MeetsLine, lines_of}
use Rattle.vpg_tree.specs.RuleText.{closeness, rule_text}

-- a set with the root that meets every line
pub record MeetsLines (tree : Tree) (set : List Bool) : Type 0 where
  pub length_is : length set ≡ length tree.names
  pub root : Has set 0
  pub each : AllByRecursion (MeetsLine set) (lines_of tree)

-- the configurations of a tree are the sets with the root that meet each line of its diagram
abbrev pub ConfigurationsMeetTheLines : Type 0
ConfigurationsMeetTheLines = (tree : Tree) (set : List Bool) → IsConfiguration tree set ↔ MeetsLines tree set

abbrev pub more_if : Bool → ℕ → ℕ
more_if true n = suc n
more_if false n = n

-- the most `(`, `!`, `=>` and `<=>` that are open at one place of a rule's writing
abbrev mutual
  pub open_signs : Constraint ℕ → ℕ
  open_signs always = 0
  open_signs never = 0
  open_signs (feature f) = 0
  open_signs (negation c) = suc (more_if (nat_lt (closeness c) 4) (open_signs c))
  open_signs (all cs) = most_open 4 cs
  open_signs (any cs) = most_open 3 cs
  open_signs (implication c d) =
      max (more_if (nat_lt (closeness c) 2) (open_signs c)) (suc (more_if (nat_lt (closeness d) 1) (open_signs d)))
  open_signs (equivalence c d) = max (more_if (nat_lt (closeness c) 1) (open_signs c)) (suc (open_signs d))

  -- of parts that stand in parentheses unless they bind this closely
  pub most_open : ℕ → Parts ℕ → ℕ
  most_open least no_parts = 0
  most_open least (part c cs) = max (more_if (nat_lt (closeness c) least) (open_signs c)) (most_open least cs)

abbrev pub HasTwo : Parts ℕ → Type 0
HasTwo no_parts = ⊥
HasTwo (part c no_parts) = ⊥
HasTwo (part c (part d cs)) = ⊤

-- each `and` and each `or` has two parts or more, as in the rules that are read
abbrev mutual
  pub JoinsTwo : Constraint ℕ → Type 0
  JoinsTwo always = ⊤
  JoinsTwo never = ⊤
  JoinsTwo (feature f) = ⊤
  JoinsTwo (negation c) = JoinsTwo c
  JoinsTwo (all cs) = HasTwo cs × EachJoinsTwo cs
  JoinsTwo (any cs) = HasTwo cs × EachJoinsTwo cs
  JoinsTwo (implication c d) = JoinsTwo c × JoinsTwo d
  JoinsTwo (equivalence c d) = JoinsTwo c × JoinsTwo d

  pub EachJoinsTwo : Parts ℕ → Type 0
  EachJoinsTwo no_parts = ⊤
  EachJoinsTwo (part c cs) = JoinsTwo c × EachJoinsTwo cs

-- a text spells a rule, whose names are those of the constraint's features
abbrev pub ReadsAs : List (List ℕ) → List ℕ → Constraint ℕ → Type 0
ReadsAs names text c = (rule : NamedRule) × Spells text rule × (renamed (index_or_end names) rule ≡ c)

-- the writing of a rule reads back as the rule
abbrev pub WrittenRulesReadBack : Type 0
WrittenRulesReadBack =
    (names : List (List ℕ)) (c : Constraint ℕ) → AreNames names → IsBelow (length names) c → JoinsTwo c →
    open_signs c ≤ 64 → ReadsAs names (rule_text names c) c

-- so do rules that were read from some text
abbrev pub ReadRulesReadBack : Type 0
ReadRulesReadBack =
    (names : List (List ℕ)) (text : List ℕ) (rule : NamedRule) (c : Constraint ℕ) → AreNames names →
    Spells text rule → c ≡ renamed (index_or_end names) rule → IsBelow (length names) c →
    ReadsAs names (rule_text names c) c
