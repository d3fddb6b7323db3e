-- The line that reports a fault.
use Rattle.std.specs.Prelude.{ℕ, ◌||◌, ◌==◌, nat_lt, if◌then◌else◌, List, [], ◌∷◌, ◌++◌, map, codes, decimal}
use Rattle.std.specs.String.{string_bytes}
use Rattle.vpg_configuration.specs.declared.fault.Reason.{Reason}
use Rattle.vpg_configuration.specs.declared.fault.Reason.TheVariants as reasons
use Rattle.vpg_configuration.specs.declared.fault.ConfigurationFault.{ConfigurationFault}
use Rattle.vpg_configuration.specs.declared.fault.ConfigurationFault.TheVariants as configuration
use Rattle.vpg_guards.specs.declared.fault.GuardFault.{GuardFault}
use Rattle.vpg_guards.specs.declared.fault.GuardFault.TheVariants as guard
use Rattle.vpg_game.specs.declared.fault.GameFault.{GameFault}
use Rattle.vpg_game.specs.declared.fault.GameFault.TheVariants as game
use Rattle.vpg_diagram.specs.declared.fault.DiagramFault.{DiagramFault}
use Rattle.vpg_diagram.specs.declared.fault.DiagramFault.TheVariants as diagram
use Rattle.vpg_system.specs.declared.fault.SystemFault.{SystemFault}
use Rattle.vpg_system.specs.declared.fault.SystemFault.TheVariants as system
use Rattle.vpg_formula.specs.declared.fault.RequirementFault.{RequirementFault}
use Rattle.vpg_formula.specs.declared.fault.RequirementFault.TheVariants as requirements
use Rattle.vpg_model.specs.declared.fault.ModelFault.{ModelFault}
use Rattle.vpg_model.specs.declared.fault.ModelFault.TheVariants as model
use Rattle.vpg_models.specs.Told.{form_fault_text}
use Rattle.vpg_script.specs.declared.command.LineFault.{LineFault}
use Rattle.vpg_script.specs.declared.command.LineFault.TheVariants as stops
use Rattle.vpg_family.specs.Counts.{labelled}
use Rattle.vpg_family.specs.declared.fault.Input.{Input}
use Rattle.vpg_family.specs.declared.fault.Input.TheVariants as inputs
use Rattle.vpg_family.specs.declared.fault.Fault.{Fault}
use Rattle.vpg_family.specs.declared.fault.Fault.TheVariants as told

-- a byte of a word: `?` for a control character
abbrev pub shown_byte : ℕ → ℕ
shown_byte byte = if nat_lt byte 32 || (byte == 127) then 63 else byte

abbrev pub guard_text : GuardFault → List ℕ
guard_text (guard.Syntax at) = labelled (codes "Syntax") at
guard_text (guard.UnknownFeature at) = labelled (codes "UnknownFeature") at
guard_text (guard.TooDeep at) = labelled (codes "TooDeep") at
guard_text guard.Memory = codes "Memory"

abbrev pub game_text : GameFault → List ℕ
game_text (game.Syntax at) = labelled (codes "Syntax") at
game_text (game.BadOwner at) = labelled (codes "BadOwner") at
game_text (game.PriorityTooLarge at) = labelled (codes "PriorityTooLarge") at
game_text (game.TooMany at) = labelled (codes "TooMany") at
game_text (game.Guard at fault) = labelled (codes "Guard") at ++ 32 ∷ guard_text fault
game_text (game.DoubleVertex id) = labelled (codes "DoubleVertex") id
game_text (game.MissingVertex id) = labelled (codes "MissingVertex") id
game_text game.TooWide = codes "TooWide"
game_text game.Memory = codes "Memory"

abbrev pub diagram_text : DiagramFault → List ℕ
diagram_text (diagram.Syntax line) = labelled (codes "Syntax") line
diagram_text diagram.NoRoot = codes "NoRoot"
diagram_text (diagram.TwoRoots line) = labelled (codes "TwoRoots") line
diagram_text (diagram.UnknownFeature line) = labelled (codes "UnknownFeature") line
diagram_text (diagram.TwoParents line) = labelled (codes "TwoParents") line
diagram_text (diagram.TooManyClauses line) = labelled (codes "TooManyClauses") line
diagram_text (diagram.TooMany line) = labelled (codes "TooMany") line
diagram_text (diagram.BadRange line) = labelled (codes "BadRange") line
diagram_text diagram.Memory = codes "Memory"

abbrev pub system_text : SystemFault → List ℕ
system_text (system.NoHeader line) = labelled (codes "NoHeader") line
system_text (system.TooMany line) = labelled (codes "TooMany") line
system_text (system.Syntax line) = labelled (codes "Syntax") line
system_text (system.WrongCount line) = labelled (codes "WrongCount") line
system_text (system.Label line) = labelled (codes "Label") line
system_text (system.NoState line) = labelled (codes "NoState") line
system_text (system.Guard line at fault) = labelled (codes "Guard") line ++ labelled [] at ++ 32 ∷ guard_text fault
system_text system.Memory = codes "Memory"

abbrev pub requirements_text : RequirementFault → List ℕ
requirements_text (requirements.Syntax at) = labelled (codes "Syntax") at
requirements_text (requirements.UnknownVariable at) = labelled (codes "UnknownVariable") at
requirements_text (requirements.TooDeep at) = labelled (codes "TooDeep") at
requirements_text (requirements.Twice at) = labelled (codes "Twice") at
requirements_text (requirements.TooMany at) = labelled (codes "TooMany") at
requirements_text (requirements.NegatedVariable at) = labelled (codes "NegatedVariable") at
requirements_text requirements.Memory = codes "Memory"

abbrev pub model_text : ModelFault → List ℕ
model_text model.TooManyVertices = codes "TooManyVertices"
model_text model.TooManyEdges = codes "TooManyEdges"
model_text model.TooWide = codes "TooWide"
model_text model.Memory = codes "Memory"

abbrev pub reason_text : Reason → List ℕ
reason_text reasons.Declaration = codes "Declaration"
reason_text reasons.Character = codes "Character"
reason_text reasons.Reference = codes "Reference"
reason_text reasons.Markup = codes "Markup"
reason_text reasons.Closing = codes "Closing"
reason_text reasons.SecondRoot = codes "SecondRoot"
reason_text reasons.TooDeep = codes "TooDeep"
reason_text reasons.Outside = codes "Outside"
reason_text reasons.Unfinished = codes "Unfinished"
reason_text reasons.UnknownElement = codes "UnknownElement"
reason_text reasons.UnknownValue = codes "UnknownValue"
reason_text reasons.NoName = codes "NoName"
reason_text reasons.BadName = codes "BadName"

-- a reason, and `LINE:COLUMN`
abbrev pub configuration_text : ConfigurationFault → List ℕ
configuration_text (configuration.Refused reason line column) =
    reason_text reason ++ codes " " ++ decimal line ++ codes ":" ++ decimal column
configuration_text configuration.Memory = codes "Memory"

abbrev pub line_text : LineFault → List ℕ
line_text stops.Word = codes "Word"
line_text stops.Args = codes "Args"
line_text stops.TooLong = codes "TooLong"

abbrev pub large_text : Input → List ℕ
large_text inputs.Diagram = codes "diagram TooLarge"
large_text inputs.Game = codes "game TooLarge"
large_text inputs.System = codes "system TooLarge"
large_text inputs.Requirements = codes "requirements TooLarge"
large_text inputs.Script = codes "script TooLarge"

-- the text of a fault, which has those of the faults of guards, games, diagrams, feature models, systems, requirements,
-- models, configurations and lines as parts
abbrev pub fault_text : Fault → List ℕ
fault_text told.DiagramUnreadable = codes "diagram unreadable"
fault_text (told.Diagram fault) = codes "diagram " ++ diagram_text fault
fault_text (told.FeatureModel fault) = form_fault_text fault
fault_text told.GameUnreadable = codes "game unreadable"
fault_text (told.Game fault) = codes "game " ++ game_text fault
fault_text told.SystemUnreadable = codes "system unreadable"
fault_text (told.System fault) = codes "system " ++ system_text fault
fault_text told.RequirementsUnreadable = codes "requirements unreadable"
fault_text (told.Requirements fault) = codes "requirements " ++ requirements_text fault
fault_text (told.TooManyParts name) = codes "requirements TooManyParts " ++ name.items
fault_text (told.Model fault) = codes "model " ++ model_text fault
fault_text (told.Configuration fault) = codes "configuration " ++ configuration_text fault
fault_text told.ScriptUnreadable = codes "script unreadable"
fault_text (told.TooLarge input) = large_text input
fault_text (told.TooManySigns at) = labelled (codes "game TooManySigns") at
fault_text told.AtLimit = codes "game AtLimit"
fault_text (told.Conflict feature) = codes "Conflict " ++ string_bytes feature
fault_text (told.Line number fault) = labelled (codes "script Line") number ++ 32 ∷ line_text fault
fault_text told.Read = codes "script Read"
fault_text told.Write = codes "Write"
fault_text (told.UnknownFeature name) = codes "UnknownFeature " ++ map shown_byte (string_bytes name)
fault_text told.NotAProduct = codes "NotAProduct"
fault_text told.Memory = codes "Memory"
fault_text told.LogFull = codes "script LogFull"
fault_text told.Stray = codes "script Stray"
fault_text (told.NoTrace answer) = codes "NoTrace " ++ answer.items

-- `vpgdesk: `, the fault, and a line feed
abbrev pub fault_line : Fault → List ℕ
fault_line fault = codes "vpgdesk: " ++ fault_text fault ++ 10 ∷ []
