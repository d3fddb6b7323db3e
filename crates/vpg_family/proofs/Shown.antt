-- Systems that are drawn, and what is told where they are not.
use Rattle.std.proofs.Common.{◌≡◌, ℕ, Bool, Option, List, [], ◌++◌, map, ap, ◌∙◌}
use Rattle.vpg_guards.specs.declared.tri.Tri.{Tri}
use Rattle.vpg_diagram.specs.declared.clause.Literal.{Literal}
use Rattle.vpg_diagram.specs.DiagramText.{NamedDiagram, IsTextOf}
use Rattle.vpg_partial.specs.Known.{literal_of}
use Rattle.vpg_partial.specs.TableLaws.{IsKnownTable}
use Rattle.vpg_partial.specs.declared.decision.Decision.{Decision}
use Rattle.vpg_system.specs.SystemText.{NamedSystem}
use Rattle.vpg_system_draw.specs.Reached.{AreReached}
use Rattle.vpg_system_draw.specs.SystemDrawing.{system_drawing}
use Rattle.vpg_system_draw.specs.Traced.{Marking, Trail}
use Rattle.vpg_family.specs.Families.{IsDiagramFault}
use Rattle.vpg_family.specs.Pictures.{TellsContradiction}
use Rattle.vpg_family.specs.Systems.{IsSystemFault, IsSystemDrawn, IsSystemUndrawn, IsSystemUnder, marks_on}
use Rattle.vpg_family.specs.declared.fault.Fault.{Fault}
use Rattle.vpg_family.specs.declared.fault.Fault.TheVariants as told

-- ---- what is told

pub undrawn_of_diagram : (diagram_text system_text : List ℕ) (fault : Fault) → IsDiagramFault diagram_text fault → IsSystemUndrawn diagram_text system_text fault
undrawn_of_diagram diagram_text system_text (told.Diagram fault) h = h
undrawn_of_diagram diagram_text system_text told.Memory h = tt
undrawn_of_diagram diagram_text system_text _ h = absurd h

pub undrawn_of_system : (diagram_text system_text : List ℕ) (diagram : NamedDiagram) (fault : Fault) → IsTextOf diagram_text diagram → IsSystemFault diagram.names system_text fault → IsSystemUndrawn diagram_text system_text fault
undrawn_of_system diagram_text system_text diagram (told.System fault) is h = (diagram, is, h)
undrawn_of_system diagram_text system_text diagram told.Memory is h = tt
undrawn_of_system diagram_text system_text diagram _ is h = absurd h

pub undrawn_contradiction : (diagram_text system_text : List ℕ) (diagram : NamedDiagram) (fault : Fault) → IsTextOf diagram_text diagram → TellsContradiction diagram fault → IsSystemUndrawn diagram_text system_text fault
undrawn_contradiction diagram_text system_text diagram (told.Conflict name) is h = (diagram, is, h)
undrawn_contradiction diagram_text system_text diagram told.Memory is h = tt
undrawn_contradiction diagram_text system_text diagram _ is h = absurd h

-- ---- what is drawn

pub shown : (names seen : List (List ℕ)) (known : List Tri) (choices : List Literal) (system : NamedSystem) (marking : Marking) (reached found : List Bool) (before picture : List ℕ) →
    AreReached known system reached → picture ≡ before ++ system_drawing seen known choices system found marking → before ≡ [] → seen ≡ names → found ≡ reached →
    IsSystemDrawn names known choices system marking picture
shown names seen known choices system marking reached found before picture are is empty same alike = record {
  reached = reached;
  are_reached = are;
  picture_is = is ∙ ap (λ (b : List ℕ). b ++ system_drawing seen known choices system found marking) empty
      ∙ ap (λ (ns : List (List ℕ)). system_drawing ns known choices system found marking) same
      ∙ ap (λ (marks : List Bool). system_drawing names known choices system marks marking) alike;
}

pub under : (diagram drawn : NamedDiagram) (choices : List Literal) (known seen : List Tri) (decisions : List Decision) (system : NamedSystem) (trail : Option Trail) (picture : List ℕ)
    → IsKnownTable diagram.lines choices known → IsSystemDrawn drawn.names seen (map literal_of decisions) system (marks_on system trail) picture → drawn ≡ diagram → seen ≡ known → map literal_of decisions ≡ choices
    → IsSystemUnder diagram choices system trail picture
under diagram drawn choices known seen decisions system trail picture known_is is d k ds = record {
  known = known;
  known_is = known_is;
  drawn = coe 0 1 (i. IsSystemDrawn (d i).names (k i) (ds i) system (marks_on system trail) picture) is;
}
