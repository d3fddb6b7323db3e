-- The code's values as those of the definitions, for private contracts.
use Rattle.std.specs.Prelude.{◌≡◌, ◌⊎◌, ◌+◌, ◌<◌, ◌≤◌, ℕ, Bool, true, false, if◌then◌else◌, List, [], ◌∷◌, length, Option, Result, Ok, Err, option_map, ⊤}
use Rattle.std.specs.List.{AllByRecursion, list_all}
use Rattle.std.specs.Borrow.{Bor}
use Rattle.std.specs.Str.Lines.{strip_carriage_return}
use Rattle.vpg_features.specs.Names.{IsFeatureName}
use Rattle.vpg_rules.specs.Constraint.{Constraint, renamed}
use Rattle.vpg_rules.specs.Grammar.{NamedRule, index_or_end}
use Rattle.vpg_rules.specs.View.{constraint_of}
use Rattle.vpg_rules.specs.declared.rule.Rule.{Rule}
use Rattle.vpg_tree.specs.Tree.{Tree}
use Rattle.vpg_uvl.specs.Rows.{Row, is_blank, rows_from, parts_of}
use Rattle.vpg_uvl.specs.Items.{Item, head, named, Stop, Reason, Indentation, UnknownFeature}
use Rattle.vpg_uvl.specs.Nesting.{Open, Growth}
use Rattle.vpg_uvl.specs.Model.{Features, SpellsGrouped, SpellsConstraint, HasReason, TextFault, Refused, Ended, Memory}
use Rattle.vpg_uvl.specs.declared.row.Row as code_row
use Rattle.vpg_uvl.specs.declared.row.Cursor as code_cursor
use Rattle.vpg_uvl.specs.declared.item.Item as code_item
use Rattle.vpg_uvl.specs.declared.item.Stop as code_stop
use Rattle.vpg_uvl.specs.declared.growth.Growth as code_growth
use Rattle.vpg_uvl.specs.declared.growth.RowError as errors
use Rattle.vpg_uvl.specs.declared.reading.Features as code_features

abbrev pub text_in : Option (Bor (List ℕ)) → Option (List ℕ)
text_in found = option_map (λ t. t.now) found

abbrev pub row_of : code_row.Row → Row
row_of row = record { start = row.start; bytes = row.bytes.now }

-- the row of a part after so many bytes, if it is one, and the later rows
abbrev pub row_then : ℕ → List ℕ → List Row → List Row
row_then start part later =
    if list_all is_blank (strip_carriage_return part) then later
    else record { start = start; bytes = strip_carriage_return part } ∷ later

-- the rows that are left
abbrev pub rows_left : code_cursor.Cursor → List Row
rows_left cursor = rows_from cursor.start (parts_of cursor.rest.now)

abbrev pub item_in : code_item.Item → Item
item_in (code_item.TheVariants.Head kind) = head kind
item_in (code_item.TheVariants.Named name) = named name.now

abbrev pub stop_of : code_stop.Stop → Stop
stop_of stop = record { reason = stop.reason; left = stop.left.now }

abbrev pub stop_in : Option code_stop.Stop → Option Stop
stop_in found = option_map stop_of found

-- a feature has a feature name
abbrev pub IsItem : Item → Type 0
IsItem (head kind) = ⊤
IsItem (named name) = IsFeatureName name

-- an item, or why there is none
abbrev pub GivesItem : Result code_item.Item code_stop.Stop → Result Item Stop → Type 0
GivesItem (Ok item) read = read ≡ Ok (item_in item)
GivesItem (Err stop) read = read ≡ Err (stop_of stop)

abbrev pub growth_of : code_growth.Growth → Growth
growth_of g = record { tree = g.tree; open_rows = g.open_rows.items }

-- why a row does not grow the tree
abbrev pub IsRowError : Result Growth Stop → errors.RowError → Type 0
IsRowError read errors.TheVariants.Memory = ⊤
IsRowError read (errors.TheVariants.Refused stop) = read ≡ Err (stop_of stop)

abbrev pub IsNumberedBy : Tree → ℕ → Bool → Type 0
IsNumberedBy tree number true = number < length tree.groups
IsNumberedBy tree number false = number < length tree.names

-- the number of an open row is that of a group or a feature
abbrev pub IsNumbered : Tree → Open → Type 0
IsNumbered tree row = IsNumberedBy tree row.number row.is_group

-- the open rows are those of groups and features of a tree without constraints
pub record AreNumbered (g : Growth) : Type 0 where
  pub each : AllByRecursion (IsNumbered g.tree) g.open_rows
  pub none : g.tree.constraints ≡ []

abbrev pub features_in : code_features.Features → Features
features_in f = record { tree = f.tree; behind = rows_left f.behind }

-- memory ran out, or this is the fault of the reading
abbrev pub IsReadingFault : Result Features TextFault → TextFault → Type 0
IsReadingFault read fault = (fault ≡ Memory) ⊎ (read ≡ Err fault)

-- a reason of a row that spells no rule
abbrev pub IsOfRule : Reason → Type 0
IsOfRule Indentation = ⊥
IsOfRule UnknownFeature = ⊥
IsOfRule _ = ⊤

abbrev pub TellsRule : TextFault → Type 0
TellsRule Memory = ⊤
TellsRule Ended = ⊤
TellsRule (Refused reason at) = IsOfRule reason

abbrev pub Tells : Reason → TextFault → Type 0
Tells reason Memory = ⊥
Tells reason Ended = ⊥
Tells reason (Refused told at) = told ≡ reason

-- a place within a row, or just after it
abbrev pub IsWithin : Row → ℕ → Type 0
IsWithin row at = (row.start ≤ at) × (at ≤ row.start + length row.bytes)

-- a refusal within a row
abbrev pub IsPlaced : Row → TextFault → Type 0
IsPlaced row Memory = ⊥
IsPlaced row Ended = ⊥
IsPlaced row (Refused reason at) = IsWithin row at

-- the rule is one that the text spells, with the index of each feature
abbrev pub IsSpelledBy : List (List ℕ) → List ℕ → Rule → Type 0
IsSpelledBy names text rule =
    (c : NamedRule) × SpellsGrouped text c × (constraint_of rule ≡ renamed (index_or_end names) c)

-- why the text of a row spells no rule
abbrev pub IsRuleFault : Row → List ℕ → TextFault → Type 0
IsRuleFault row text Memory = ⊤
IsRuleFault row text Ended = ⊥
IsRuleFault row text (Refused reason at) =
    ((c : NamedRule) → SpellsGrouped text c → ⊥) × IsOfRule reason × IsWithin row at

-- why a row spells no constraint
abbrev pub IsRowFault : List (List ℕ) → Row → TextFault → Type 0
IsRowFault names row Memory = ⊤
IsRowFault names row Ended = ⊥
IsRowFault names row (Refused reason at) =
    ((c : Constraint ℕ) → SpellsConstraint names row c → ⊥) × IsWithin row at × HasReason names row reason
