-- Faults of configurations, and lines of the one document that a text spells.
use Rattle.std.proofs.Common.{◌≡◌, ℕ, List, Ok, Err, inl, inr, refl, sym, ap, ◌∙◌}
use Rattle.vpg_xml.specs.Elements.{Document}
use Rattle.vpg_xml.specs.Faults.{IsAt}
use Rattle.vpg_xml.specs.Nesting.{Spells}
use Rattle.vpg_xml.specs.declared.fault.XmlFault.{XmlFault}
use Rattle.vpg_configuration.specs.Deciding.{TextFault, Memory, lines_of, IsRefused, IsTextFault, of_xml}

pub refused_as : (c d : Document) (fault : TextFault) → c ≡ d → IsRefused (lines_of c) fault → IsRefused (lines_of d) fault
refused_as c d fault e (inl m) = inl m
refused_as c d fault e (inr h) = inr (sym (ap lines_of e) ∙ h)

pub faulty : (text : List ℕ) (d : Document) (fault : TextFault) → Spells text d → IsRefused (lines_of d) fault → IsTextFault text fault
faulty text d fault s (inl m) = inl m
faulty text d fault s (inr h) = inr (inr (record { document = d; spells = s; is = h }))

pub xml_fault : (text : List ℕ) (fault : XmlFault) → IsAt text fault → IsTextFault text (of_xml fault)
xml_fault text fault h = inr (inl (fault, refl, h))

-- two lists of lines of one document
pub same_lines : (d : Document) (a b : List ℕ) → lines_of d ≡ Ok a → lines_of d ≡ Ok b → a ≡ b
same_lines d a b e f = let both : Ok a ≡ Ok b = sym e ∙ f in cc

-- a document with lines is refused only if memory runs out
pub only_memory : (d : Document) (a : List ℕ) (fault : TextFault) → lines_of d ≡ Ok a → IsRefused (lines_of d) fault → fault ≡ Memory
only_memory d a fault e (inl m) = m
only_memory d a fault e (inr h) = let both : Ok a ≡ Err fault = sym e ∙ h in absurd (cc)
