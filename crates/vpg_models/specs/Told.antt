-- The text of a feature model's fault. This project's own.
use Rattle.std.specs.Prelude.{ℕ, List, ◌∷◌, ◌++◌, codes, decimal}
use Rattle.vpg_uvl.specs.declared.fault.Reason.{Reason}
use Rattle.vpg_uvl.specs.declared.fault.Reason.TheVariants as reasons
use Rattle.vpg_uvl.specs.declared.fault.UvlFault.{UvlFault}
use Rattle.vpg_uvl.specs.declared.fault.UvlFault.TheVariants as uvl
use Rattle.vpg_xml.specs.declared.fault.XmlFault.{XmlFault}
use Rattle.vpg_xml.specs.declared.fault.XmlFault.TheVariants as xml
use Rattle.vpg_featureide.specs.declared.fault.ModelFault.{ModelFault}
use Rattle.vpg_featureide.specs.declared.fault.ModelFault.TheVariants as featureide
use Rattle.vpg_models.specs.declared.fault.FormFault.{FormFault}
use Rattle.vpg_models.specs.declared.fault.FormFault.TheVariants as told

abbrev pub reason_text : Reason → List ℕ
reason_text reasons.Syntax = codes "Syntax"
reason_text reasons.Indentation = codes "Indentation"
reason_text reasons.Import = codes "Import"
reason_text reasons.Level = codes "Level"
reason_text reasons.Typed = codes "Typed"
reason_text reasons.FeatureCardinality = codes "FeatureCardinality"
reason_text reasons.Attributes = codes "Attributes"
reason_text reasons.AttributeConstraint = codes "AttributeConstraint"
reason_text reasons.Quotes = codes "Quotes"
reason_text reasons.Name = codes "Name"
reason_text reasons.Range = codes "Range"
reason_text reasons.Twice = codes "Twice"
reason_text reasons.TooMany = codes "TooMany"
reason_text reasons.NoMember = codes "NoMember"
reason_text reasons.UnknownFeature = codes "UnknownFeature"
reason_text reasons.Attribute = codes "Attribute"
reason_text reasons.Arithmetic = codes "Arithmetic"
reason_text reasons.Comparison = codes "Comparison"
reason_text reasons.Text = codes "Text"
reason_text reasons.Aggregate = codes "Aggregate"
reason_text reasons.Comment = codes "Comment"
reason_text reasons.TooDeep = codes "TooDeep"

-- a reason, and `LINE:COLUMN`
abbrev pub uvl_text : UvlFault → List ℕ
uvl_text (uvl.Refused reason line column) =
    reason_text reason ++ codes " " ++ decimal line ++ codes ":" ++ decimal column
uvl_text uvl.Ended = codes "Ended"
uvl_text uvl.Memory = codes "Memory"

-- a word, a blank and a number
abbrev pub at_text : List ℕ → ℕ → List ℕ
at_text word at = word ++ codes " " ++ decimal at

abbrev pub xml_text : XmlFault → List ℕ
xml_text (xml.Declaration at) = at_text (codes "Declaration") at
xml_text (xml.Character at) = at_text (codes "Character") at
xml_text (xml.Reference at) = at_text (codes "Reference") at
xml_text (xml.Markup at) = at_text (codes "Markup") at
xml_text (xml.Closing at) = at_text (codes "Closing") at
xml_text (xml.SecondRoot at) = at_text (codes "SecondRoot") at
xml_text (xml.TooDeep at) = at_text (codes "TooDeep") at
xml_text (xml.Outside at) = at_text (codes "Outside") at
xml_text (xml.Unfinished at) = at_text (codes "Unfinished") at
xml_text xml.Memory = codes "Memory"

abbrev pub featureide_text : ModelFault → List ℕ
featureide_text (featureide.Xml fault) = codes "Xml " ++ xml_text fault
featureide_text (featureide.UnknownElement at) = at_text (codes "UnknownElement") at
featureide_text (featureide.UnknownValue at) = at_text (codes "UnknownValue") at
featureide_text (featureide.NoName at) = at_text (codes "NoName") at
featureide_text (featureide.BadName at) = at_text (codes "BadName") at
featureide_text (featureide.Twice at) = at_text (codes "Twice") at
featureide_text (featureide.TooMany at) = at_text (codes "TooMany") at
featureide_text (featureide.SecondRoot at) = at_text (codes "SecondRoot") at
featureide_text featureide.NoRoot = codes "NoRoot"
featureide_text (featureide.UnknownName at) = at_text (codes "UnknownName") at
featureide_text (featureide.Operands at) = at_text (codes "Operands") at
featureide_text (featureide.TooDeep at) = at_text (codes "TooDeep") at
featureide_text featureide.Memory = codes "Memory"

-- the language, and the fault in it
abbrev pub form_fault_text : FormFault → List ℕ
form_fault_text (told.Uvl fault) = codes "uvl " ++ uvl_text fault
form_fault_text (told.FeatureIde fault) = codes "featureide " ++ featureide_text fault
form_fault_text told.Memory = codes "Memory"
