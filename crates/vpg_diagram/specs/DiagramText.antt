-- Texts of feature diagrams: this project's own format.
use Rattle.std.specs.Prelude.{ℕ, ◌<◌, ◌≤◌, ◌≡◌, Bool, true, false, ◌&&◌, ◌||◌, ◌==◌, List, [], ◌∷◌, ◌++◌, length, map, filter, slice_index_or, IsTrue, codes, sum_by, ⊤}
use Rattle.std.specs.List.{AllByRecursion, AllZip, list_all, slice_split}
use Rattle.std.specs.Char.{is_ascii_digit}
use Rattle.std.specs.Str.Parse.{digits_value}
use Rattle.std.specs.Str.Lines.{lines}
use Rattle.vpg_features.specs.Names.{IsFeatureName, AreNames}
use Rattle.vpg_rules.specs.Constraint.{renamed}
use Rattle.vpg_rules.specs.Clauses.{clause_count}
use Rattle.vpg_rules.specs.Grammar.{NamedRule, Spells as SpellsRule}
use Rattle.vpg_diagram.specs.FeatureDiagram.{Line, Mandatory, Optional, Alternative, Or, Group, Requires, Excludes, Formula, feature_count, IsDiagram}

-- a space or a tab
abbrev pub is_blank : ℕ → Bool
is_blank b = (b == 32) || (b == 9)

abbrev pub is_nonempty : {X : Type 0} → List X → Bool
is_nonempty [] = false
is_nonempty (x ∷ xs) = true

-- the words of a line: what stands between its blanks
abbrev pub words : List ℕ → List (List ℕ)
words line = filter is_nonempty (slice_split is_blank line)

-- one or more decimal digits
abbrev pub is_numeral : List ℕ → Bool
is_numeral digits = is_nonempty digits && list_all is_ascii_digit digits

-- A line with the names that stand in it.
pub data Form : Type 0 where
  RootLine : (name : List ℕ) → Form
  MandatoryLine : (parent child : List ℕ) → Form
  OptionalLine : (parent child : List ℕ) → Form
  AlternativeLine : (parent : List ℕ) (members : List (List ℕ)) → Form
  OrLine : (parent : List ℕ) (members : List (List ℕ)) → Form
  GroupLine : (parent : List ℕ) (low high : ℕ) (members : List (List ℕ)) → Form
  RequiresLine : (feature needed : List ℕ) → Form
  ExcludesLine : (feature other : List ℕ) → Form
  FormulaLine : (rule : NamedRule) → Form

-- two names after a word
pub record HasTwoNames (bytes : List ℕ) (word first second : List ℕ) : Type 0 where
  pub words_are : words bytes ≡ word ∷ first ∷ second ∷ []
  pub first_name : IsFeatureName first
  pub second_name : IsFeatureName second

-- a head of words with a parent's name among them, a colon, and one or more members
pub record HasMembers (bytes : List ℕ) (head : List (List ℕ)) (parent : List ℕ) (members : List (List ℕ)) : Type 0 where
  pub front : List ℕ
  pub back : List ℕ
  pub bytes_are : bytes ≡ front ++ 58 ∷ back
  pub head_is : words front ≡ head
  pub members_are : words back ≡ members
  pub parent_name : IsFeatureName parent
  pub some : 0 < length members
  pub member_names : AllByRecursion IsFeatureName members

pub record IsNumeralOf (digits : List ℕ) (n : ℕ) : Type 0 where
  pub numeral : IsTrue (is_numeral digits)
  pub value : digits_value 10 digits ≡ n

-- the word `rule`, a blank, and the text of a rule
pub record HasRule (bytes : List ℕ) (c : NamedRule) : Type 0 where
  pub front : List ℕ
  pub blank : ℕ
  pub text : List ℕ
  pub bytes_are : bytes ≡ front ++ codes "rule" ++ blank ∷ text
  pub front_blank : IsTrue (list_all is_blank front)
  pub is_one : IsTrue (is_blank blank)
  pub rule : SpellsRule text c

-- the bytes of a line, and its form
abbrev pub SpellsForm : List ℕ → Form → Type 0
SpellsForm bytes (RootLine r) = (words bytes ≡ codes "root" ∷ r ∷ []) × IsFeatureName r
SpellsForm bytes (MandatoryLine p c) = HasTwoNames bytes (codes "mandatory") p c
SpellsForm bytes (OptionalLine p c) = HasTwoNames bytes (codes "optional") p c
SpellsForm bytes (AlternativeLine p cs) = HasMembers bytes (codes "alternative" ∷ p ∷ []) p cs
SpellsForm bytes (OrLine p cs) = HasMembers bytes (codes "or" ∷ p ∷ []) p cs
SpellsForm bytes (GroupLine p low high cs) =
    (i j : List ℕ) × IsNumeralOf i low × IsNumeralOf j high × HasMembers bytes (codes "group" ∷ p ∷ i ∷ j ∷ []) p cs
SpellsForm bytes (RequiresLine a b) = HasTwoNames bytes (codes "requires") a b
SpellsForm bytes (ExcludesLine a b) = HasTwoNames bytes (codes "excludes") a b
SpellsForm bytes (FormulaLine c) = HasRule bytes c

-- A diagram with the names of its features.
pub record NamedDiagram : Type 0 where
  pub names : List (List ℕ)
  pub lines : List Line

abbrev pub name_of : List (List ℕ) → ℕ → List ℕ
name_of names f = slice_index_or names f []

-- the form of a line, where features have these names
abbrev pub named : List (List ℕ) → Line → Form
named names (Mandatory p c) = MandatoryLine (name_of names p) (name_of names c)
named names (Optional p c) = OptionalLine (name_of names p) (name_of names c)
named names (Alternative p cs) = AlternativeLine (name_of names p) (map (name_of names) cs)
named names (Or p cs) = OrLine (name_of names p) (map (name_of names) cs)
named names (Group p low high cs) = GroupLine (name_of names p) low high (map (name_of names) cs)
named names (Requires a b) = RequiresLine (name_of names a) (name_of names b)
named names (Excludes a b) = ExcludesLine (name_of names a) (name_of names b)
named names (Formula c) = FormulaLine (renamed (name_of names) c)

-- the lines that are not blank
abbrev pub kept_lines : List ℕ → List (List ℕ)
kept_lines text = filter (λ line. is_nonempty (words line)) (lines text)

-- how many rules a line has: each clause of a formula is one
abbrev pub rules_of : Line → ℕ
rules_of (Requires a b) = 1
rules_of (Excludes a b) = 1
rules_of (Formula c) = clause_count c
rules_of _ = 0

-- a formula has at most 64 clauses
abbrev pub HasFewClauses : Line → Type 0
HasFewClauses (Formula c) = clause_count c ≤ 64
HasFewClauses _ = ⊤

-- A diagram within the limits, and a name for each of its features, no two the same.
pub record IsNamedDiagram (d : NamedDiagram) : Type 0 where
  pub diagram : IsDiagram d.lines
  pub names : AreNames d.names
  pub each_named : length d.names ≡ feature_count d.lines
  pub few_rules : sum_by rules_of d.lines ≤ 16384
  pub few_clauses : AllByRecursion HasFewClauses d.lines

-- the text has a root line, and then a line for each line of the diagram
pub record Spells (text : List ℕ) (d : NamedDiagram) : Type 0 where
  pub root : List ℕ
  pub others : List (List ℕ)
  pub lines_are : kept_lines text ≡ root ∷ others
  pub root_is : SpellsForm root (RootLine (name_of d.names 0))
  pub others_are : AllZip (λ bytes line. SpellsForm bytes (named d.names line)) others d.lines

-- The text spells this diagram, within the limits. Its lines that are not blank have, in order, the forms of the root
-- and of the diagram's lines.
pub record IsTextOf (text : List ℕ) (d : NamedDiagram) : Type 0 where
  pub named_diagram : IsNamedDiagram d
  pub spells : Spells text d
