-- The picture of a system over the features of a diagram, and the fault if there is none. This project's own.
use Rattle.std.specs.Prelude.{◌≡◌, ◌≢◌, ℕ, ⊤, Bool, Option, Some, None, List, []}
use Rattle.vpg_guards.specs.declared.tri.Tri.{Tri}
use Rattle.vpg_diagram.specs.declared.clause.Literal.{Literal}
use Rattle.vpg_diagram.specs.DiagramText.{NamedDiagram, IsTextOf}
use Rattle.vpg_partial.specs.TableLaws.{IsKnownTable}
use Rattle.vpg_system.specs.SystemText.{NamedSystem, IsTextOf as IsSystemText}
use Rattle.vpg_system.specs.TextFaults.{IsFirstFault}
use Rattle.vpg_system.specs.declared.fault.SystemFault.TheVariants as of_system
use Rattle.vpg_system_draw.specs.Reached.{AreReached}
use Rattle.vpg_system_draw.specs.SystemDrawing.{system_drawing}
use Rattle.vpg_system_draw.specs.Traced.{Marking, Trail, marking_of, no_marking}
use Rattle.vpg_family.specs.Families.{IsDiagramFault}
use Rattle.vpg_family.specs.Pictures.{TellsContradiction}
use Rattle.vpg_family.specs.declared.fault.Fault.{Fault}
use Rattle.vpg_family.specs.declared.fault.Fault.TheVariants as told

-- the fault of a text that is no system over these names: out of memory is no fault of the system
abbrev pub IsSystemFault : List (List ℕ) → List ℕ → Fault → Type 0
IsSystemFault names text (told.System fault) = (fault ≢ of_system.Memory) × IsFirstFault names text fault
IsSystemFault names text told.Memory = ⊤
IsSystemFault names text fault = ⊥

-- the system is drawn under these decisions and what they make known, with these marks; grey is each state without one
-- that cannot be reached then
pub record IsSystemDrawn (names : List (List ℕ)) (known : List Tri) (choices : List Literal) (system : NamedSystem)
    (marking : Marking) (picture : List ℕ) : Type 0 where
  pub reached : List Bool
  pub are_reached : AreReached known system reached
  pub picture_is : picture ≡ system_drawing names known choices system reached marking

-- the system is drawn under what the diagram alone makes known
pub record IsDrawnAlone (diagram : NamedDiagram) (system : NamedSystem) (picture : List ℕ) : Type 0 where
  pub known : List Tri
  pub known_is : IsKnownTable diagram.lines [] known
  pub drawn : IsSystemDrawn diagram.names known [] system no_marking picture

-- The texts spell a diagram and a system over its features, which is drawn under what the diagram alone makes known.
pub record IsSystemPicture (diagram_text system_text picture : List ℕ) : Type 0 where
  pub diagram : NamedDiagram
  pub diagram_spelled : IsTextOf diagram_text diagram
  pub system : NamedSystem
  pub system_spelled : IsSystemText diagram.names system_text system
  pub drawn : IsDrawnAlone diagram system picture

-- The fault of two texts without a picture: one of the system only if the diagram has none.
abbrev pub IsSystemUndrawn : (diagram_text system_text : List ℕ) → Fault → Type 0
IsSystemUndrawn diagram_text system_text (told.System fault) =
    (diagram : NamedDiagram) × IsTextOf diagram_text diagram ×
    IsSystemFault diagram.names system_text (told.System fault)
IsSystemUndrawn diagram_text system_text (told.Conflict name) =
    (diagram : NamedDiagram) × IsTextOf diagram_text diagram × TellsContradiction diagram (told.Conflict name)
IsSystemUndrawn diagram_text system_text fault = IsDiagramFault diagram_text fault

-- the marks of a trace, if there is one
abbrev pub marks_on : NamedSystem → Option Trail → Marking
marks_on system None = no_marking
marks_on system (Some trail) = marking_of system trail

-- The system is drawn under these choices of features and what they make known, with the marks of a trace if there is
-- one.
pub record IsSystemUnder (diagram : NamedDiagram) (choices : List Literal) (system : NamedSystem)
    (trail : Option Trail) (picture : List ℕ) : Type 0 where
  pub known : List Tri
  pub known_is : IsKnownTable diagram.lines choices known
  pub drawn : IsSystemDrawn diagram.names known choices system (marks_on system trail) picture

-- And it is the system that a text spells.
pub record IsSystemOn (diagram : NamedDiagram) (choices : List Literal) (system_text : List ℕ) (trail : Option Trail)
    (picture : List ℕ) : Type 0 where
  pub system : NamedSystem
  pub system_spelled : IsSystemText diagram.names system_text system
  pub under : IsSystemUnder diagram choices system trail picture
