-- Which feature tree a text in the Universal Variability Language (UVL; Sundermann et al. 2021) spells, and its first
-- fault. The profile: features with names of this project, groups, attributes that say nothing of constraints, and
-- constraints over features.
use Rattle.std.specs.Prelude.{ℕ, ◌+◌, ◌-◌, ◌<◌, ◌≤◌, ◌≡◌, if◌then◌else◌, List, [], ◌∷◌, ◌++◌, length, Option, Some, None, Result, Ok, Err, codes, ◌⊎◌, ⊤}
use Rattle.std.specs.List.{AllZip}
use Rattle.vpg_rules.specs.Constraint.{Constraint, renamed, IsBelow}
use Rattle.vpg_rules.specs.Grammar as rules
use Rattle.vpg_rules.specs.Grammar.{NamedRule, index_or_end}
use Rattle.vpg_tree.specs.Tree.{Tree}
use Rattle.vpg_uvl.specs.Comments.{open_comment}
use Rattle.vpg_uvl.specs.Rows.{Row, rows, is_head, indentation}
use Rattle.vpg_uvl.specs.Places.{line_of, column_of}
use Rattle.vpg_uvl.specs.Quotes.{unquoted}
use Rattle.vpg_uvl.specs.Arrows.{grouped}
use Rattle.vpg_uvl.specs.Items.{Stop, NoMember, Reason, Indentation, UnknownFeature, Comment}
use Rattle.vpg_uvl.specs.Nesting.{Growth, last_of, ends_in_head, grown, rooted, front_stop}
use Rattle.vpg_uvl.specs.declared.fault.UvlFault.{UvlFault}
use Rattle.vpg_uvl.specs.declared.fault.UvlFault.TheVariants as faults
pub use Rattle.vpg_uvl.specs.declared.fault.TextFault.{TextFault}
pub use Rattle.vpg_uvl.specs.declared.fault.TextFault.TheVariants.{Refused, Ended, Memory}

-- the fault of a row: how many bytes of the text come before what is left
abbrev pub fault_at : Row → Stop → TextFault
fault_at row stop = Refused stop.reason (row.start + (length row.bytes - length stop.left))

-- the tree of the rows up to `constraints`, and the rows after that
pub record Features : Type 0 where
  pub tree : Tree
  pub behind : List Row

abbrev pub finished : Growth → List Row → TextFault → Result Features TextFault
finished g behind fault =
    if ends_in_head (last_of g.open_rows) then Err fault else Ok (record { tree = g.tree; behind = behind })

abbrev pub after_row :
    Row → Result Growth Stop → (Growth → Result Features TextFault) → Result Features TextFault
after_row row (Err stop) rest = Err (fault_at row stop)
after_row row (Ok g) rest = rest g

-- each row after the root's grows the tree
abbrev pub features_from : Growth → List Row → Result Features TextFault
features_from g [] = finished g [] Ended
features_from g (row ∷ behind) =
    let further : Growth → Result Features TextFault = λ h. features_from h behind in
    if is_head (codes "constraints") row.bytes
    then finished g behind (Refused NoMember row.start)
    else after_row row (grown g row.bytes) further

abbrev pub features_of : List Row → Result Features TextFault
features_of [] = Err Ended
features_of (row ∷ behind) = after_row row (rooted row.bytes) (λ g. features_from g behind)

abbrev pub after_front : Row → Option Stop → Result Features TextFault → Result Features TextFault
after_front row None rest = rest
after_front row (Some stop) rest = Err (fault_at row stop)

-- the features of a text, after the rows up to `features`
abbrev pub features_after : List Row → Result Features TextFault
features_after [] = Err Ended
features_after (row ∷ behind) =
    let further : Result Features TextFault = features_after behind in
    if is_head (codes "features") row.bytes then features_of behind
    else after_front row (front_stop row.bytes) further

-- each name in the rule is that of a feature
abbrev pub IsOverFeatures : List (List ℕ) → NamedRule → Type 0
IsOverFeatures names rule = IsBelow (length names) (renamed (index_or_end names) rule)

-- the text is that of a rule, and the rule is the one that it spells where it groups as the language does
pub record SpellsGrouped (text : List ℕ) (rule : NamedRule) : Type 0 where
  pub right_first : NamedRule
  pub is_rule : rules.Spells text right_first
  pub spelled : rules.Spells (grouped text) rule

-- A row below `constraints`: it is indented, and without the quotes around names it spells a rule over the features.
-- The constraint has each feature's index for its name.
pub record SpellsConstraint (names : List (List ℕ)) (row : Row) (c : Constraint ℕ) : Type 0 where
  pub indented : 0 < indentation row.bytes
  pub rule : NamedRule
  pub spelled : SpellsGrouped (unquoted row.bytes) rule
  pub over_features : IsOverFeatures names rule
  pub indices : c ≡ renamed (index_or_end names) rule

-- the tree with the constraints that rows spell
pub record ReadsBehind (bare : Tree) (behind : List Row) (tree : Tree) : Type 0 where
  pub same : tree ≡ record bare { constraints = tree.constraints }
  pub constraints : AllZip (SpellsConstraint bare.names) behind tree.constraints

-- The text spells the tree: each comment ends; its rows up to `constraints` spell the tree's features, and the rows
-- after that the tree's constraints, in order.
pub record Spells (text : List ℕ) (tree : Tree) : Type 0 where
  pub closed : open_comment text ≡ None
  pub behind : List Row
  pub features : features_after (rows text) ≡ Ok (record { tree = record tree { constraints = [] }; behind = behind })
  pub constraints : AllZip (SpellsConstraint tree.names) behind tree.constraints

-- Why a row spells no constraint: it is not indented, it spells a rule with a name that no feature has, or else it
-- spells no rule.
abbrev pub HasReason : List (List ℕ) → Row → Reason → Type 0
HasReason names row Indentation = indentation row.bytes ≡ 0
HasReason names row UnknownFeature =
    (rule : NamedRule) × SpellsGrouped (unquoted row.bytes) rule × (IsOverFeatures names rule → ⊥)
HasReason names row _ = (rule : NamedRule) → SpellsGrouped (unquoted row.bytes) rule → ⊥

-- The fault is of the first row that spells no constraint; its place lies in the row, or just after it.
pub record IsConstraintFault (names : List (List ℕ)) (behind : List Row) (reason : Reason) (at : ℕ) : Type 0 where
  pub before : List Row
  pub row : Row
  pub after : List Row
  pub parts : behind ≡ before ++ row ∷ after
  pub read : List (Constraint ℕ)
  pub spelled : AllZip (SpellsConstraint names) before read
  pub faulty : (c : Constraint ℕ) → SpellsConstraint names row c → ⊥
  pub why : HasReason names row reason
  pub from : row.start ≤ at
  pub within : at ≤ row.start + length row.bytes

-- the fault of constraints, or memory ran out
abbrev pub IsFaultBehind : List (List ℕ) → List Row → TextFault → Type 0
IsFaultBehind names behind Memory = ⊤
IsFaultBehind names behind Ended = ⊥
IsFaultBehind names behind (Refused reason at) = IsConstraintFault names behind reason at

-- the fault of the rows up to `constraints`, or else that of the first faulty row after it
abbrev pub IsFaultOfRows : List Row → TextFault → Type 0
IsFaultOfRows rows fault =
    (features_after rows ≡ Err fault)
    ⊎ ((read : Features) × (features_after rows ≡ Ok read) × IsFaultBehind read.tree.names read.behind fault)

-- the fault of a text with an open comment at this place, or with none
abbrev pub IsFaultBy : Option ℕ → List Row → TextFault → Type 0
IsFaultBy (Some at) rows fault = fault ≡ Refused Comment at
IsFaultBy None rows fault = IsFaultOfRows rows fault

-- memory ran out, or this is the first fault of a text: a comment without an end, or else the first one of its rows
abbrev pub IsTextFault : List ℕ → TextFault → Type 0
IsTextFault text fault = (fault ≡ Memory) ⊎ IsFaultBy (open_comment text) (rows text) fault

-- the fault with the line and the column of its place
abbrev pub told : List ℕ → TextFault → UvlFault
told text Memory = faults.Memory
told text Ended = faults.Ended
told text (Refused reason at) = faults.Refused reason (line_of text at) (column_of text at)

-- the first fault of a text, with its line and column
abbrev pub IsFirstFault : List ℕ → UvlFault → Type 0
IsFirstFault text fault = (first : TextFault) × IsTextFault text first × (fault ≡ told text first)
