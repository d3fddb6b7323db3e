-- Which fault a text of a feature diagram has: the first by line, and then the first by number.
use Rattle.std.specs.Prelude.{ℕ, ◌+◌, ◌<◌, ◌≤◌, ◌≡◌, Bool, List, [], ◌∷◌, ◌++◌, length, filter, Some, slice_get, IsTrue, sum_by, ◌⊎◌, ⊤}
use Rattle.std.specs.List.{AllByRecursion, AllZip}
use Rattle.std.specs.Str.Lines.{lines}
use Rattle.vpg_features.specs.Names.{AreDistinct}
use Rattle.vpg_rules.specs.Constraint.{features_in}
use Rattle.vpg_rules.specs.Clauses.{clause_count}
use Rattle.vpg_diagram.specs.DiagramText.{is_nonempty, words, Form, RootLine, MandatoryLine, OptionalLine, AlternativeLine, OrLine, GroupLine, RequiresLine, ExcludesLine, FormulaLine, SpellsForm, NamedDiagram, name_of, named, rules_of, IsNamedDiagram}
use Rattle.vpg_diagram.specs.declared.fault.DiagramFault.{DiagramFault}
use Rattle.vpg_diagram.specs.declared.fault.DiagramFault.TheVariants as faults
use Rattle.vpg_diagram.specs.declared.fault.LineFault.{LineFault}
use Rattle.vpg_diagram.specs.declared.fault.LineFault.TheVariants.{Syntax, TwoRoots, UnknownFeature, TwoParents, TooManyClauses, TooMany, BadRange}

abbrev pub not_blank : List ℕ → Bool
not_blank line = is_nonempty (words line)

-- the lines have a root line, and then a line for each line of the diagram
pub record AreLinesOf (ls : List (List ℕ)) (d : NamedDiagram) : Type 0 where
  pub named_diagram : IsNamedDiagram d
  pub root : List ℕ
  pub others : List (List ℕ)
  pub lines_are : filter not_blank ls ≡ root ∷ others
  pub root_is : SpellsForm root (RootLine (name_of d.names 0))
  pub others_are : AllZip (λ bytes line. SpellsForm bytes (named d.names line)) others d.lines

-- the names that a form adds, and how many rules it has
abbrev pub new_names : Form → List (List ℕ)
new_names (RootLine r) = r ∷ []
new_names (MandatoryLine p c) = c ∷ []
new_names (OptionalLine p c) = c ∷ []
new_names (AlternativeLine p cs) = cs
new_names (OrLine p cs) = cs
new_names (GroupLine p low high cs) = cs
new_names (RequiresLine a b) = []
new_names (ExcludesLine a b) = []
new_names (FormulaLine c) = []

abbrev pub rules_in : Form → ℕ
rules_in (RequiresLine a b) = 1
rules_in (ExcludesLine a b) = 1
rules_in (FormulaLine c) = clause_count c
rules_in _ = 0

-- the names that must stand on an earlier line
abbrev pub earlier_names : Form → List (List ℕ)
earlier_names (RootLine r) = []
earlier_names (MandatoryLine p c) = p ∷ []
earlier_names (OptionalLine p c) = p ∷ []
earlier_names (AlternativeLine p cs) = p ∷ []
earlier_names (OrLine p cs) = p ∷ []
earlier_names (GroupLine p low high cs) = p ∷ []
earlier_names (RequiresLine a b) = a ∷ b ∷ []
earlier_names (ExcludesLine a b) = a ∷ b ∷ []
earlier_names (FormulaLine c) = features_in c

abbrev pub IsOther : Form → Type 0
IsOther (RootLine r) = ⊥
IsOther _ = ⊤

abbrev pub IsAmong : List (List ℕ) → List ℕ → Type 0
IsAmong names name = (i : ℕ) × (slice_get names i ≡ Some name)

-- a range that does not fit the members
abbrev pub HasBadRange : Form → Type 0
HasBadRange (GroupLine p low high cs) = (high < low) ⊎ (length cs < high)
HasBadRange _ = ⊥

-- a formula of more than 64 clauses
abbrev pub HasManyClauses : Form → Type 0
HasManyClauses (FormulaLine c) = 64 < clause_count c
HasManyClauses _ = ⊥

-- A form that is refused after these names and this number of rules: each fault if none of a lower number holds.
abbrev pub IsFormFault : List (List ℕ) → ℕ → Form → LineFault → Type 0
IsFormFault names rules form Syntax = ⊥
IsFormFault names rules form TwoRoots = IsOther form → ⊥
IsFormFault names rules form UnknownFeature = IsOther form × (AllByRecursion (IsAmong names) (earlier_names form) → ⊥)
IsFormFault names rules form TwoParents =
    IsOther form × AllByRecursion (IsAmong names) (earlier_names form) × (AreDistinct (names ++ new_names form) → ⊥)
IsFormFault names rules form TooManyClauses =
    IsOther form × AllByRecursion (IsAmong names) (earlier_names form) × AreDistinct (names ++ new_names form) ×
    HasManyClauses form
IsFormFault names rules form TooMany =
    IsOther form × AllByRecursion (IsAmong names) (earlier_names form) × AreDistinct (names ++ new_names form) ×
    (HasManyClauses form → ⊥) × ((512 < length names + length (new_names form)) ⊎ (16384 < rules + rules_in form))
IsFormFault names rules form BadRange =
    IsOther form × AllByRecursion (IsAmong names) (earlier_names form) × AreDistinct (names ++ new_names form) ×
    (length names + length (new_names form) ≤ 512) × HasBadRange form

-- a line without a form, or with a form that is refused
abbrev pub IsLineFault : List (List ℕ) → ℕ → List ℕ → LineFault → Type 0
IsLineFault names rules bytes Syntax = (form : Form) → SpellsForm bytes form → ⊥
IsLineFault names rules bytes kind = (form : Form) × SpellsForm bytes form × IsFormFault names rules form kind

-- the first line that is not blank has no form, or one that needs a feature
abbrev pub IsRootFault : List ℕ → LineFault → Type 0
IsRootFault bytes Syntax = (form : Form) → SpellsForm bytes form → ⊥
IsRootFault bytes UnknownFeature = (form : Form) × SpellsForm bytes form × IsOther form
IsRootFault bytes kind = ⊥

-- a fault at a line, where the lines before it are blank, or those of a diagram
pub record IsFaultAt (ls : List (List ℕ)) (number : ℕ) (kind : LineFault) : Type 0 where
  pub before : List (List ℕ)
  pub bytes : List ℕ
  pub after : List (List ℕ)
  pub lines_are : ls ≡ before ++ bytes ∷ after
  pub number_is : number ≡ length before + 1
  pub written : IsTrue (not_blank bytes)
  pub fault : ((filter not_blank before ≡ []) × IsRootFault bytes kind) ⊎
      ((d : NamedDiagram) × AreLinesOf before d × IsLineFault d.names (sum_by rules_of d.lines) bytes kind)

-- the fault of a text whose line is refused so
abbrev pub fault_at : ℕ → LineFault → DiagramFault
fault_at line Syntax = faults.Syntax line
fault_at line TwoRoots = faults.TwoRoots line
fault_at line UnknownFeature = faults.UnknownFeature line
fault_at line TwoParents = faults.TwoParents line
fault_at line TooManyClauses = faults.TooManyClauses line
fault_at line TooMany = faults.TooMany line
fault_at line BadRange = faults.BadRange line

-- the first line of a text that has a fault, with its first fault; or that all lines are blank
abbrev pub IsFirstFault : List ℕ → DiagramFault → Type 0
IsFirstFault text (faults.Syntax line) = IsFaultAt (lines text) line Syntax
IsFirstFault text faults.NoRoot = filter not_blank (lines text) ≡ []
IsFirstFault text (faults.TwoRoots line) = IsFaultAt (lines text) line TwoRoots
IsFirstFault text (faults.UnknownFeature line) = IsFaultAt (lines text) line UnknownFeature
IsFirstFault text (faults.TwoParents line) = IsFaultAt (lines text) line TwoParents
IsFirstFault text (faults.TooManyClauses line) = IsFaultAt (lines text) line TooManyClauses
IsFirstFault text (faults.TooMany line) = IsFaultAt (lines text) line TooMany
IsFirstFault text (faults.BadRange line) = IsFaultAt (lines text) line BadRange
IsFirstFault text faults.Memory = ⊤
