-- What the reading of a text says of the text.
use Rattle.std.proofs.Common.{◌≡◌, ℕ, List, Result, Ok, Err, inl, inr, sym, ◌∙◌, subst}
use Rattle.vpg_diagram.specs.DiagramText.{NamedDiagram, IsTextOf}
use Rattle.vpg_diagram.specs.DiagramReading.{Fault, reading}
use Rattle.vpg_diagram.specs.ReadCode.{IsReadingFault}
use Rattle.vpg_diagram.specs.TextFaults.{IsFirstFault}
use Rattle.vpg_diagram.specs.declared.fault.DiagramFault.{DiagramFault}
use Rattle.vpg_diagram.specs.declared.fault.DiagramFault.TheVariants as faults
use Rattle.vpg_diagram.proofs.FaultLemmas.{first_fault}
use Rattle.vpg_diagram.proofs.TextLemmas.{reading_from_text}

pub read_as : (text : List ℕ) (a d : NamedDiagram) → reading text ≡ Ok a → IsTextOf text d → a ≡ d
read_as text a d e t =
    let r : ◌≡◌ {A = Result NamedDiagram Fault} (Ok a) (Ok d) = sym e ∙ reading_from_text text d t in
    (cc)

not_refused : (text : List ℕ) (fault : Fault) (d : NamedDiagram) → reading text ≡ Err fault → IsTextOf text d → ⊥
not_refused text fault d e t =
    let r : ◌≡◌ {A = Result NamedDiagram Fault} (Err fault) (Ok d) = sym e ∙ reading_from_text text d t in
    absurd (cc)

pub spelled_or_memory : (text : List ℕ) (e : DiagramFault) → IsReadingFault (reading text) e → (d : NamedDiagram) → IsTextOf text d → e ≡ faults.Memory
spelled_or_memory text e (inl m) d t = m
spelled_or_memory text e (inr f) d t = absurd (not_refused text f.0 d f.1 t)

pub fault_is_first : (text : List ℕ) (e : DiagramFault) → IsReadingFault (reading text) e → IsFirstFault text e
fault_is_first text e (inl m) = subst (IsFirstFault text) (sym m) tt
fault_is_first text e (inr f) = subst (IsFirstFault text) (sym f.2) (first_fault text f.0 f.1)
