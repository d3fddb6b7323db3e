-- The results of reading a line, for the contracts of private functions.
use Rattle.std.specs.Prelude.{ℕ, ◌≡◌, ◌+◌, ◌≤◌, ◌++◌, length, true, ◌∷◌, [], Bool, List, Option, Some, None, Ok, Err, Result, ◌⊎◌, ⊤}
use Rattle.std.specs.Str.Lines.{lines}
use Rattle.vpg_rules.specs.Constraint.{Constraint, renamed}
use Rattle.vpg_rules.specs.Clauses.{clause_count}
use Rattle.vpg_rules.specs.Grammar.{NamedRule, index_or_end}
use Rattle.vpg_rules.specs.Reading.{named_rule_at}
use Rattle.vpg_rules.specs.View.{constraint_of}
use Rattle.vpg_rules.specs.declared.rule.Rule.{Rule}
use Rattle.vpg_diagram.specs.FeatureDiagram.{Line, Formula}
use Rattle.vpg_diagram.specs.DiagramText.{Form, NamedDiagram}
use Rattle.vpg_diagram.specs.DiagramReading.{Syntax, Fault, NoRoot, At, place_of_name, children_at, formula_line, line_at, form_of, new_names, rules_in, read_lines, with_root}
use Rattle.vpg_diagram.specs.TextFaults.{fault_at}
use Rattle.vpg_diagram.specs.LineView.{members_of, lines_of}
use Rattle.vpg_diagram.specs.declared.fault.DiagramFault.{DiagramFault}
use Rattle.vpg_diagram.specs.declared.fault.DiagramFault.TheVariants as faults
use Rattle.vpg_diagram.specs.declared.fault.LineError.{LineError}
use Rattle.vpg_diagram.specs.declared.fault.LineError.TheVariants.{Memory, Refused}
use Rattle.vpg_diagram.specs.declared.reading.Family.{Family}
use Rattle.vpg_diagram.specs.declared.reading.Reader.{Reader}

-- children of a parent, read after names
pub record IsFamily (names : List (List ℕ)) (parent : List ℕ) (members : List (List ℕ)) (fits : Bool)
    (family : Family) : Type 0 where
  pub read : (line : ℕ → List ℕ → Line) →
      children_at names (place_of_name names parent) members line fits
      ≡ Ok (line family.parent (members_of family.members))
  pub first : family.members.first ≡ length names
  pub few : length names + length members ≤ 512
  pub in_range : fits ≡ true

-- why children are refused
abbrev pub IsChildrenError : List (List ℕ) → List ℕ → List (List ℕ) → Bool → LineError → Type 0
IsChildrenError names parent members fits Memory = ⊤
IsChildrenError names parent members fits (Refused kind) =
    (line : ℕ → List ℕ → Line) → children_at names (place_of_name names parent) members line fits ≡ Err kind

-- why a form is refused
abbrev pub IsFormError : List (List ℕ) → ℕ → Form → LineError → Type 0
IsFormError names rules form Memory = ⊤
IsFormError names rules form (Refused kind) = line_at names rules form ≡ Err kind

-- whether the text spells a rule, and the rule over indices of names
abbrev pub IsReadRule : List (List ℕ) → List ℕ → Option Rule → Type 0
IsReadRule names text None = named_rule_at text ≡ None
IsReadRule names text (Some rule) =
    (c : NamedRule) × (named_rule_at text ≡ Some c) × (constraint_of rule ≡ renamed (index_or_end names) c)

-- the rule that a text spells, after lines with these names and this number of rules, and the number of its clauses
pub record ReadsRule (names : List (List ℕ)) (rules : ℕ) (text : List ℕ) (rule : Constraint ℕ)
    (count : ℕ) : Type 0 where
  pub named : NamedRule
  pub named_is : named_rule_at text ≡ Some named
  pub line_is : formula_line names rules named ≡ Ok (Formula rule)
  pub count_is : count ≡ clause_count named

-- why a rule is refused
abbrev pub IsRuleError : List (List ℕ) → ℕ → List ℕ → LineError → Type 0
IsRuleError names rules text Memory = ⊤
IsRuleError names rules text (Refused kind) =
    ((named_rule_at text ≡ None) × (kind ≡ Syntax)) ⊎
    ((c : NamedRule) × (named_rule_at text ≡ Some c) × (formula_line names rules c ≡ Err kind))

-- the line that bytes spell, after lines with these names and this number of rules, the names with those of the line,
-- and the number of its rules
pub record ReadsLine (names : List (List ℕ)) (rules : ℕ) (bytes : List ℕ) (after : List (List ℕ))
    (line : Line) (count : ℕ) : Type 0 where
  pub form : Form
  pub form_is : form_of bytes ≡ Some form
  pub line_is : line_at names rules form ≡ Ok line
  pub names_are : after ≡ names ++ new_names form
  pub count_is : count ≡ rules_in form

-- a line after what is read
pub record AddsLine (old : Reader) (bytes : List ℕ) (new : Reader) : Type 0 where
  pub form : Form
  pub line : Line
  pub form_is : form_of bytes ≡ Some form
  pub line_is : line_at old.names old.rules form ≡ Ok line
  pub names_are : new.names ≡ old.names ++ new_names form
  pub lines_are : lines_of new.lines.items ≡ lines_of old.lines.items ++ line ∷ []
  pub rules_are : new.rules ≡ old.rules + rules_in form

-- why a line is refused
abbrev pub IsLineError : List (List ℕ) → ℕ → List ℕ → LineError → Type 0
IsLineError names rules bytes Memory = ⊤
IsLineError names rules bytes (Refused kind) =
    ((form_of bytes ≡ None) × (kind ≡ Syntax)) ⊎
    ((form : Form) × (form_of bytes ≡ Some form) × (line_at names rules form ≡ Err kind))

-- the reading of a text whose root line has this name and number, and this text after it
abbrev pub behind_root : List ℕ → ℕ → List ℕ → Result NamedDiagram Fault
behind_root root number behind = with_root root (read_lines (number + 1) (lines behind) (root ∷ []) 0)

-- the fault of a text that is not read
abbrev pub fault_of : Fault → DiagramFault
fault_of NoRoot = faults.NoRoot
fault_of (At line kind) = fault_at line kind

-- memory ran out, or this is the fault of the reading
abbrev pub IsReadingFault : Result NamedDiagram Fault → DiagramFault → Type 0
IsReadingFault read e = (e ≡ faults.Memory) ⊎ ((fault : Fault) × (read ≡ Err fault) × (e ≡ fault_of fault))
