-- The file of a diagram, which may have a feature model that means one. This project's own.
use Rattle.std.specs.Prelude.{◌≡◌, ◌≢◌, ◌⊎◌, ⊤, ℕ, List, []}
use Rattle.vpg_models.specs.Forms.{Means, IsFormFault}
use Rattle.vpg_models.specs.declared.form.Form.{Form}
use Rattle.vpg_models.specs.declared.form.Form.TheVariants as forms
use Rattle.vpg_models.specs.declared.fault.FormFault.TheVariants as of_form
use Rattle.vpg_family.specs.declared.fault.Input.TheVariants as inputs
use Rattle.vpg_family.specs.declared.fault.Fault.{Fault}
use Rattle.vpg_family.specs.declared.fault.Fault.TheVariants as told

-- The texts of a file of this form: that of the feature model in it, which is empty if the file is a diagram itself,
-- and that of the diagram which the model means.
abbrev pub AreOfFile : Form → (model_text diagram_text : List ℕ) → Type 0
AreOfFile forms.Diagram model_text diagram_text = model_text ≡ []
AreOfFile forms.Uvl model_text diagram_text = Means forms.Uvl model_text diagram_text
AreOfFile forms.FeatureIde model_text diagram_text = Means forms.FeatureIde model_text diagram_text

-- The texts of a file of this form by the time of a fault. That of a model is its own. The file is too large, or the
-- diagram that a model in it means is. With a fault of what comes later, the texts are those of the file.
abbrev pub AreOfFileBy : Fault → Form → (model_text diagram_text : List ℕ) → Type 0
AreOfFileBy told.Memory form model_text diagram_text = ⊤
AreOfFileBy told.DiagramUnreadable form model_text diagram_text = model_text ≡ []
AreOfFileBy (told.TooLarge inputs.Diagram) form model_text diagram_text =
    (model_text ≡ []) ⊎ AreOfFile form model_text diagram_text
AreOfFileBy (told.FeatureModel fault) form model_text diagram_text =
    (fault ≢ of_form.Memory) × IsFormFault form model_text fault
AreOfFileBy fault form model_text diagram_text = AreOfFile form model_text diagram_text

-- the fault is none of the file of a diagram
abbrev pub IsLater : Fault → Type 0
IsLater told.DiagramUnreadable = ⊥
IsLater (told.TooLarge inputs.Diagram) = ⊥
IsLater (told.FeatureModel fault) = ⊥
IsLater fault = ⊤
