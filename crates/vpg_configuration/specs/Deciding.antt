-- Which decisions a configuration in XML makes: the format of FeatureIDE (Thüm et al., 2014). An element
-- `configuration` has an element `feature` for each feature. What propagation decided, `automatic`, follows from what a
-- person decided, `manual`, and is read over. So is all that stands in a feature.
use Rattle.std.specs.Prelude.{◌≡◌, ℕ, List, [], ◌∷◌, ◌++◌, Bool, not, ◌&&◌, ◌||◌, ◌==◌, if◌then◌else◌, codes, bytes_eq, is_some, take, Option, Some, None, Result, Ok, Err, ◌⊎◌}
use Rattle.vpg_featureide.specs.Model.{value_of, is_name}
use Rattle.vpg_places.specs.Places.{line_of, column_of}
use Rattle.vpg_xml.specs.Elements.{Attribute, Element, Document}
use Rattle.vpg_xml.specs.Nesting.{Spells}
use Rattle.vpg_xml.specs.Faults.{IsAt}
use Rattle.vpg_xml.specs.declared.fault.XmlFault.{XmlFault}
use Rattle.vpg_xml.specs.declared.fault.XmlFault.TheVariants as xml
use Rattle.vpg_configuration.specs.declared.fault.Reason.TheVariants as reasons
use Rattle.vpg_configuration.specs.declared.fault.ConfigurationFault.{ConfigurationFault}
use Rattle.vpg_configuration.specs.declared.fault.ConfigurationFault.TheVariants as refusals
pub use Rattle.vpg_configuration.specs.declared.fault.TextFault.{TextFault}
pub use Rattle.vpg_configuration.specs.declared.fault.TextFault.TheVariants.{Refused, Memory}
pub use Rattle.vpg_configuration.specs.declared.selection.Selection.{Selection}
pub use Rattle.vpg_configuration.specs.declared.selection.Selection.TheVariants.{Selected, Unselected, Undefined}

-- ---- selections

abbrev pub selection_word : Selection → List ℕ
selection_word Selected = codes "selected"
selection_word Unselected = codes "unselected"
selection_word Undefined = codes "undefined"

-- the selection that a word stands for
abbrev pub selection_of : List ℕ → Option Selection
selection_of word =
    if bytes_eq word (codes "selected") then Some Selected
    else (if bytes_eq word (codes "unselected") then Some Unselected
    else (if bytes_eq word (codes "undefined") then Some Undefined else None))

-- an attribute with this name has a selection as its value
abbrev pub has_selection : List ℕ → Bool
has_selection key = bytes_eq key (codes "manual") || bytes_eq key (codes "automatic")

-- the first attribute whose value is unknown
abbrev pub unknown_value : List Attribute → Option ℕ
unknown_value [] = None
unknown_value (a ∷ rest) =
    if has_selection a.name && not (is_some (selection_of a.value)) then Some a.at else unknown_value rest

abbrev pub selected_by : Option (List ℕ) → Option Selection
selected_by None = None
selected_by (Some word) = selection_of word

-- what a person selected
abbrev pub manual_of : List Attribute → Option Selection
manual_of attributes = selected_by (value_of (codes "manual") attributes)

-- ---- lines of a script

-- the line of a script for the selection of a feature, none if nothing is selected
abbrev pub decision_line : Option Selection → List ℕ → List ℕ
decision_line None name = []
decision_line (Some Undefined) name = []
decision_line (Some Selected) name = codes "select " ++ name ++ 10 ∷ []
decision_line (Some Unselected) name = codes "exclude " ++ name ++ 10 ∷ []

abbrev pub and_then : {A B : Type 0} → Result A TextFault → (A → Result B TextFault) → Result B TextFault
and_then (Err fault) f = Err fault
and_then (Ok x) f = f x

abbrev pub named_line : Element → Option (List ℕ) → Result (List ℕ) TextFault
named_line e None = Err (Refused reasons.NoName e.at)
named_line e (Some name) =
    if is_name name then Ok (decision_line (manual_of e.tag.attributes) name) else Err (Refused reasons.BadName e.at)

abbrev pub valued_line : Element → Option ℕ → Result (List ℕ) TextFault
valued_line e (Some at) = Err (Refused reasons.UnknownValue at)
valued_line e None = named_line e (value_of (codes "name") e.tag.attributes)

-- the line of a script for a feature's element
abbrev pub feature_line : Element → Result (List ℕ) TextFault
feature_line e = valued_line e (unknown_value e.tag.attributes)

-- these lines, and one more
abbrev pub with_line : List ℕ → Result (List ℕ) TextFault → Result (List ℕ) TextFault
with_line before read = and_then read (λ line. Ok (before ++ line))

-- the fault of an element that may not be there
abbrev pub unknown : Element → TextFault
unknown e = Refused reasons.UnknownElement e.at

abbrev pub in_configuration : List ℕ → Element → Result (List ℕ) TextFault
in_configuration before e =
    if bytes_eq e.tag.name (codes "feature") then with_line before (feature_line e)
    else Err (unknown e)

abbrev pub in_element : List ℕ → Element → Option ℕ → Result (List ℕ) TextFault
in_element before e None =
    if bytes_eq e.tag.name (codes "configuration") then Ok before else Err (unknown e)
in_element before e (Some parent) = if parent == 0 then in_configuration before e else Ok before

-- these lines, and that of one more element
abbrev pub step : List ℕ → Element → Result (List ℕ) TextFault
step before e = in_element before e e.parent

abbrev pub lines_with : List ℕ → Document → Result (List ℕ) TextFault
lines_with before [] = Ok before
lines_with before (e ∷ rest) = and_then (step before e) (λ lines. lines_with lines rest)

-- the lines of a script for a document, or its first fault
abbrev pub lines_of : Document → Result (List ℕ) TextFault
lines_of document = lines_with [] document

-- the text spells a document with these lines
pub record Decides (text : List ℕ) (lines : List ℕ) : Type 0 where
  pub document : Document
  pub spells : Spells text document
  pub is : lines_of document ≡ Ok lines

-- ---- faults

-- memory ran out, or it is the fault of this reading
abbrev pub IsRefused : {A : Type 0} → Result A TextFault → TextFault → Type 0
IsRefused read fault = (fault ≡ Memory) ⊎ (read ≡ Err fault)

-- the text spells a document that is refused so
pub record IsFaulty (text : List ℕ) (fault : TextFault) : Type 0 where
  pub document : Document
  pub spells : Spells text document
  pub is : lines_of document ≡ Err fault

-- the fault of a configuration for one of XML
abbrev pub of_xml : XmlFault → TextFault
of_xml (xml.Declaration at) = Refused reasons.Declaration at
of_xml (xml.Character at) = Refused reasons.Character at
of_xml (xml.Reference at) = Refused reasons.Reference at
of_xml (xml.Markup at) = Refused reasons.Markup at
of_xml (xml.Closing at) = Refused reasons.Closing at
of_xml (xml.SecondRoot at) = Refused reasons.SecondRoot at
of_xml (xml.TooDeep at) = Refused reasons.TooDeep at
of_xml (xml.Outside at) = Refused reasons.Outside at
of_xml (xml.Unfinished at) = Refused reasons.Unfinished at
of_xml xml.Memory = Memory

-- memory ran out, or the text is no document, and XML has this fault, or its document is refused so
abbrev pub IsTextFault : List ℕ → TextFault → Type 0
IsTextFault text fault =
    (fault ≡ Memory) ⊎ (((x : XmlFault) × (fault ≡ of_xml x) × IsAt text x) ⊎ IsFaulty text fault)

-- the fault, with the line and the column of its place
abbrev pub told : List ℕ → TextFault → ConfigurationFault
told text (Refused reason at) = refusals.Refused reason (line_of (take at text)) (column_of (take at text))
told text Memory = refusals.Memory

-- a fault of the text, with the line and the column of its place
abbrev pub IsConfigurationFault : List ℕ → ConfigurationFault → Type 0
IsConfigurationFault text fault = (f : TextFault) × IsTextFault text f × (fault ≡ told text f)
