-- How a message points into a file, and where a reader says that a fault is. This project's own.
use Rattle.std.specs.Prelude.{◌≡◌, ℕ, ◌+◌, ◌||◌, ◌==◌, nat_lt, if◌then◌else◌, List, ◌∷◌, ◌++◌, Option, Some, None, map, take, codes, decimal}
use Rattle.vpg_guards.specs.declared.fault.GuardFault.{GuardFault}
use Rattle.vpg_guards.specs.declared.fault.GuardFault.TheVariants as guard
use Rattle.vpg_game.specs.declared.fault.GameFault.{GameFault}
use Rattle.vpg_game.specs.declared.fault.GameFault.TheVariants as game
use Rattle.vpg_diagram.specs.declared.fault.DiagramFault.{DiagramFault}
use Rattle.vpg_diagram.specs.declared.fault.DiagramFault.TheVariants as diagram
use Rattle.vpg_system.specs.declared.fault.SystemFault.{SystemFault}
use Rattle.vpg_system.specs.declared.fault.SystemFault.TheVariants as system
use Rattle.vpg_formula.specs.declared.fault.RequirementFault.{RequirementFault}
use Rattle.vpg_formula.specs.declared.fault.RequirementFault.TheVariants as requirements
use Rattle.vpg_places.specs.Places.{line_of, column_of}
use Rattle.vpg_places.specs.declared.place.Place.{Place}
use Rattle.vpg_lint.specs.declared.message.Message.{Message}

-- a byte that is shown: `?` if it is a control character
abbrev pub shown_byte : ℕ → ℕ
shown_byte byte = if nat_lt byte 32 || (byte == 127) then 63 else byte

-- a file's name, a line and a column, each with a colon after it
abbrev pub place_text : List ℕ → ℕ → ℕ → List ℕ
place_text name line column = map shown_byte name ++ 58 ∷ decimal line ++ 58 ∷ decimal column ++ codes ": "

-- the place of a message in the file of this name, and its words
abbrev pub message_text : List ℕ → Message → List ℕ
message_text name message = place_text name message.place.line message.place.column ++ message.words.items

-- where a guard's fault stands in the guard
abbrev pub offset_in_guard : GuardFault → ℕ
offset_in_guard (guard.Syntax at) = at
offset_in_guard (guard.UnknownFeature at) = at
offset_in_guard (guard.TooDeep at) = at
offset_in_guard guard.Memory = 0

-- where the reader of a game says that its fault stands; not all faults have a place
abbrev pub offset_of : GameFault → Option ℕ
offset_of (game.Syntax at) = Some at
offset_of (game.BadOwner at) = Some at
offset_of (game.PriorityTooLarge at) = Some at
offset_of (game.TooMany at) = Some at
offset_of (game.Guard at fault) = Some (at + offset_in_guard fault)
offset_of (game.DoubleVertex id) = None
offset_of (game.MissingVertex id) = None
offset_of game.TooWide = None
offset_of game.Memory = None

-- the place is that of the byte at an offset, or of the end of the text if the offset is greater
pub record IsPlaceOf (text : List ℕ) (at : ℕ) (place : Place) : Type 0 where
  pub line : place.line ≡ line_of (take at text)
  pub column : place.column ≡ column_of (take at text)

-- the faulty line that the reader of a diagram names, or the first line if it names none
abbrev pub line_of_fault : DiagramFault → ℕ
line_of_fault (diagram.Syntax line) = line
line_of_fault diagram.NoRoot = 1
line_of_fault (diagram.TwoRoots line) = line
line_of_fault (diagram.UnknownFeature line) = line
line_of_fault (diagram.TwoParents line) = line
line_of_fault (diagram.TooManyClauses line) = line
line_of_fault (diagram.TooMany line) = line
line_of_fault (diagram.BadRange line) = line
line_of_fault diagram.Memory = 1

-- the faulty line that the reader of a system names, or the first line if it names none
abbrev pub line_in_system : SystemFault → ℕ
line_in_system (system.NoHeader line) = line
line_in_system (system.TooMany line) = line
line_in_system (system.Syntax line) = line
line_in_system (system.WrongCount line) = line
line_in_system (system.Label line) = line
line_in_system (system.NoState line) = line
line_in_system (system.Guard line at fault) = line
line_in_system system.Memory = 1

-- where the reader of requirements says that its fault stands
abbrev pub offset_in_requirements : RequirementFault → Option ℕ
offset_in_requirements (requirements.Syntax at) = Some at
offset_in_requirements (requirements.UnknownVariable at) = Some at
offset_in_requirements (requirements.TooDeep at) = Some at
offset_in_requirements (requirements.Twice at) = Some at
offset_in_requirements (requirements.TooMany at) = Some at
offset_in_requirements (requirements.NegatedVariable at) = Some at
offset_in_requirements requirements.Memory = None
