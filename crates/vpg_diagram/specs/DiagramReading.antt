-- Reading a text of a feature diagram, line by line, for the contracts of private functions.
use Rattle.std.specs.Prelude.{ℕ, suc, ◌+◌, Bool, true, false, not, ◌&&◌, ◌==◌, nat_lt, nat_le, cond, List, [], ◌∷◌, ◌++◌, length, Option, Some, None, Result, Ok, Err, codes, bytes_eq, is_some, is_none, option_map, option_and_then}
use Rattle.std.specs.List.{list_all, range_with_len}
use Rattle.std.specs.Str.Parse.{digits_value}
use Rattle.std.specs.Str.Lines.{lines}
use Rattle.vpg_features.specs.Names.{starts_as_name, is_name_byte, constant_of}
use Rattle.vpg_rules.specs.Constraint.{renamed, features_in}
use Rattle.vpg_rules.specs.Clauses.{clause_count}
use Rattle.vpg_rules.specs.Grammar.{NamedRule, index_or_end}
use Rattle.vpg_rules.specs.Reading.{stripped, named_rule_at}
use Rattle.vpg_diagram.specs.FeatureDiagram.{Line, Mandatory, Optional, Alternative, Or, Group, Requires, Excludes, Formula}
pub use Rattle.vpg_diagram.specs.declared.fault.LineFault.{LineFault}
pub use Rattle.vpg_diagram.specs.declared.fault.LineFault.TheVariants.{Syntax, TwoRoots, UnknownFeature, TwoParents, TooManyClauses, TooMany, BadRange}
use Rattle.vpg_diagram.specs.DiagramText.{is_blank, words, is_nonempty, is_numeral, Form, RootLine, MandatoryLine, OptionalLine, AlternativeLine, OrLine, GroupLine, RequiresLine, ExcludesLine, FormulaLine, NamedDiagram}
pub use Rattle.vpg_diagram.specs.TextFaults.{new_names, rules_in}

pub data Fault : Type 0 where
  NoRoot : Fault
  At : (line : ℕ) → LineFault → Fault

-- a test that has to pass, and the fault if it does not
abbrev pub checked : {A E : Type 0} → Bool → E → Result A E → Result A E
checked true fault r = r
checked false fault r = Err fault

-- the text before the first colon, and the text after it
abbrev pub before_next : ℕ → Option (List ℕ × List ℕ) → Option (List ℕ × List ℕ)
before_next b None = None
before_next b (Some p) = Some (b ∷ p.0, p.1)

abbrev pub at_colon : List ℕ → Option (List ℕ × List ℕ)
at_colon [] = None
at_colon (b ∷ bs) = cond (b == 58) (Some ([], bs)) (before_next b (at_colon bs))

-- the test for a feature name
abbrev pub is_feature_name : List ℕ → Bool
is_feature_name w = starts_as_name w && list_all is_name_byte w && nat_le (length w) 64 && is_none (constant_of w)

abbrev pub if_names : List (List ℕ) → Form → Option Form
if_names names form = cond (list_all is_feature_name names) (Some form) None

-- a line with no colon
abbrev pub plain_form : List (List ℕ) → Option Form
plain_form (w ∷ a ∷ []) = cond (bytes_eq w (codes "root")) (if_names (a ∷ []) (RootLine a)) None
plain_form (w ∷ a ∷ b ∷ []) =
    cond (bytes_eq w (codes "mandatory")) (if_names (a ∷ b ∷ []) (MandatoryLine a b))
    (cond (bytes_eq w (codes "optional")) (if_names (a ∷ b ∷ []) (OptionalLine a b))
    (cond (bytes_eq w (codes "requires")) (if_names (a ∷ b ∷ []) (RequiresLine a b))
    (cond (bytes_eq w (codes "excludes")) (if_names (a ∷ b ∷ []) (ExcludesLine a b)) None)))
plain_form _ = None

-- a line with a colon, by the words before it and after it
abbrev pub group_form : List (List ℕ) → List (List ℕ) → Option Form
group_form head [] = None
group_form (w ∷ p ∷ []) (c ∷ cs) =
    cond (bytes_eq w (codes "alternative")) (if_names (p ∷ c ∷ cs) (AlternativeLine p (c ∷ cs)))
    (cond (bytes_eq w (codes "or")) (if_names (p ∷ c ∷ cs) (OrLine p (c ∷ cs))) None)
group_form (w ∷ p ∷ i ∷ j ∷ []) (c ∷ cs) =
    cond (bytes_eq w (codes "group") && is_numeral i && is_numeral j)
    (if_names (p ∷ c ∷ cs) (GroupLine p (digits_value 10 i) (digits_value 10 j) (c ∷ cs))) None
group_form head members = None

abbrev pub form_by_colon : List ℕ → Option (List ℕ × List ℕ) → Option Form
form_by_colon bytes None = plain_form (words bytes)
form_by_colon bytes (Some parts) = group_form (words parts.0) (words parts.1)

-- the text after a blank at the front
abbrev pub after_blank : List ℕ → Option (List ℕ)
after_blank [] = None
after_blank (b ∷ text) = cond (is_blank b) (Some text) None

-- the text after the word `rule` and a blank, if the line begins so
abbrev pub behind_rule : List ℕ → Option (List ℕ)
behind_rule [] = None
behind_rule (b ∷ bytes) =
    cond (is_blank b) (behind_rule bytes) (option_and_then after_blank (stripped (codes "rule") (b ∷ bytes)))

abbrev pub form_by_word : List ℕ → Option (List ℕ) → Option Form
form_by_word bytes None = form_by_colon bytes (at_colon bytes)
form_by_word bytes (Some text) = option_map FormulaLine (named_rule_at text)

-- the form of a line, if it has one
abbrev pub form_of : List ℕ → Option Form
form_of bytes = form_by_word bytes (behind_rule bytes)

-- the feature of a name
abbrev pub place_of_name : List (List ℕ) → List ℕ → Option ℕ
place_of_name [] name = None
place_of_name (n ∷ ns) name = cond (bytes_eq name n) (Some 0) (option_map suc (place_of_name ns name))

-- names that are not there yet, and not twice among themselves
abbrev pub are_new : List (List ℕ) → List (List ℕ) → Bool
are_new names [] = true
are_new names (c ∷ cs) = not (is_some (place_of_name names c)) && are_new (names ++ c ∷ []) cs

-- a line with children of a parent, which is at a place
abbrev pub children_at : List (List ℕ) → Option ℕ → List (List ℕ) → (ℕ → List ℕ → Line) → Bool → Result Line LineFault
children_at names None members line fits = Err UnknownFeature
children_at names (Some p) members line fits =
    checked (are_new names members) TwoParents
    (checked (nat_le (length names + length members) 512) TooMany
    (checked fits BadRange
    (Ok (line p (range_with_len (length names) (length members))))))

abbrev pub rule_at : ℕ → Option ℕ → Option ℕ → (ℕ → ℕ → Line) → Result Line LineFault
rule_at rules None b line = Err UnknownFeature
rule_at rules (Some a) None line = Err UnknownFeature
rule_at rules (Some a) (Some b) line = checked (nat_lt rules 16384) TooMany (Ok (line a b))

-- names that are all there
abbrev pub are_known : List (List ℕ) → List (List ℕ) → Bool
are_known names words = list_all (λ w. nat_lt (index_or_end names w) (length names)) words

abbrev pub formula_line : List (List ℕ) → ℕ → NamedRule → Result Line LineFault
formula_line names rules c =
    checked (are_known names (features_in c)) UnknownFeature
    (checked (nat_le (clause_count c) 64) TooManyClauses
    (checked (nat_le (rules + clause_count c) 16384) TooMany
    (Ok (Formula (renamed (index_or_end names) c)))))

-- the line of a form, after lines with these names and this number of rules
abbrev pub line_at : List (List ℕ) → ℕ → Form → Result Line LineFault
line_at names rules (RootLine r) = Err TwoRoots
line_at names rules (MandatoryLine p c) =
    children_at names (place_of_name names p) (c ∷ []) (λ k _. Mandatory k (length names)) true
line_at names rules (OptionalLine p c) =
    children_at names (place_of_name names p) (c ∷ []) (λ k _. Optional k (length names)) true
line_at names rules (AlternativeLine p cs) = children_at names (place_of_name names p) cs Alternative true
line_at names rules (OrLine p cs) = children_at names (place_of_name names p) cs Or true
line_at names rules (GroupLine p low high cs) =
    children_at names (place_of_name names p) cs (λ k ks. Group k low high ks)
    (nat_le low high && nat_le high (length cs))
line_at names rules (RequiresLine a b) = rule_at rules (place_of_name names a) (place_of_name names b) Requires
line_at names rules (ExcludesLine a b) = rule_at rules (place_of_name names a) (place_of_name names b) Excludes
line_at names rules (FormulaLine c) = formula_line names rules c

-- a line in front of what is read after it
abbrev pub with_line : Line → List (List ℕ) → Result NamedDiagram Fault → Result NamedDiagram Fault
with_line line new (Ok d) = Ok (record { names = new ++ d.names; lines = line ∷ d.lines })
with_line line new (Err fault) = Err fault

abbrev pub with_root : List ℕ → Result NamedDiagram Fault → Result NamedDiagram Fault
with_root root (Ok d) = Ok (record { names = root ∷ d.names; lines = d.lines })
with_root root (Err fault) = Err fault

-- the line, and then what is read after it, by the names and rules up to there
abbrev pub after_line : ℕ → List (List ℕ) → ℕ → Form → Result Line LineFault →
    (List (List ℕ) → ℕ → Result NamedDiagram Fault) → Result NamedDiagram Fault
after_line number names rules form (Err fault) rest = Err (At number fault)
after_line number names rules form (Ok line) rest =
    with_line line (new_names form) (rest (names ++ new_names form) (rules + rules_in form))

abbrev pub after_form : ℕ → List (List ℕ) → ℕ → Option Form → (List (List ℕ) → ℕ → Result NamedDiagram Fault) →
    Result NamedDiagram Fault
after_form number names rules None rest = Err (At number Syntax)
after_form number names rules (Some form) rest = after_line number names rules form (line_at names rules form) rest

-- the lines from a number on, after lines with these names and this number of rules
abbrev pub read_lines : ℕ → List (List ℕ) → List (List ℕ) → ℕ → Result NamedDiagram Fault
read_lines number [] names rules = Ok (record { names = []; lines = [] })
read_lines number (bytes ∷ rest) names rules =
    let behind : List (List ℕ) → ℕ → Result NamedDiagram Fault = read_lines (number + 1) rest in
    cond (is_nonempty (words bytes)) (after_form number names rules (form_of bytes) behind) (behind names rules)

abbrev pub after_root : ℕ → Option Form → List (List ℕ) → Result NamedDiagram Fault
after_root number None rest = Err (At number Syntax)
after_root number (Some (RootLine root)) rest = with_root root (read_lines (number + 1) rest (root ∷ []) 0)
after_root number (Some form) rest = Err (At number UnknownFeature)

abbrev pub read_root : ℕ → List (List ℕ) → Result NamedDiagram Fault
read_root number [] = Err NoRoot
read_root number (bytes ∷ rest) =
    let behind : Result NamedDiagram Fault = read_root (number + 1) rest in
    cond (is_nonempty (words bytes)) (after_root number (form_of bytes) rest) behind

-- the diagram of a text, or the first fault
abbrev pub reading : List ℕ → Result NamedDiagram Fault
reading text = read_root 1 (lines text)
