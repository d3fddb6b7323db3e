-- The texts of a diagram's file, and its faults.
use Rattle.std.proofs.Common.{◌≡◌, ℕ, List, sym, subst, ◌⊎◌, inl, inr}
use Rattle.vpg_models.specs.declared.form.Form.{Form}
use Rattle.vpg_family.specs.Families.{IsDiagramFault}
use Rattle.vpg_family.specs.Sources.{AreOfFile, AreOfFileBy}
use Rattle.vpg_family.specs.declared.fault.Input.TheVariants as inputs
use Rattle.vpg_family.specs.declared.fault.Fault.{Fault}
use Rattle.vpg_family.specs.declared.fault.Fault.TheVariants as told

-- texts of a file are those by a fault of the diagram's text
pub by_text : (form : Form) (model text : List ℕ) (fault : Fault) → AreOfFile form model text → (fault ≡ told.TooLarge inputs.Diagram) ⊎ IsDiagramFault text fault → AreOfFileBy fault form model text
by_text form model text fault are (inl e) = subst (λ (f : Fault). AreOfFileBy f form model text) (sym e) (inr are)
by_text form model text (told.Diagram fault) are (inr h) = are
by_text form model text told.Memory are (inr h) = tt
by_text form model text _ are (inr h) = absurd h
