-- The forms of a diagram's file, and the diagram that a feature model means. The Universal Variability Language is that
-- of Sundermann et al. (2021), and the XML that of FeatureIDE (Thüm et al., 2014).
use Rattle.std.specs.Prelude.{◌≡◌, ◌≢◌, ⊤, ℕ, nat_eq, if◌then◌else◌, List, [], codes}
use Rattle.std.specs.List.{ends_with}
use Rattle.vpg_tree.specs.Tree.{Tree as FeatureTree}
use Rattle.vpg_tree.specs.DiagramText.{diagram_text}
use Rattle.vpg_diagram.specs.DiagramText.{NamedDiagram, IsTextOf}
use Rattle.vpg_tree_diagram.specs.Standing.{HasTheConfigurations, IsWithinLimits}
use Rattle.vpg_uvl.specs.Model.{Spells, IsFirstFault}
use Rattle.vpg_uvl.specs.Attributes.{attribute_places}
use Rattle.vpg_uvl.specs.declared.fault.UvlFault.TheVariants as of_uvl
use Rattle.vpg_featureide.specs.Trees.{IsTreeOf}
use Rattle.vpg_featureide.specs.Formulas.{IsFaultOf}
use Rattle.vpg_featureide.specs.declared.fault.ModelFault.TheVariants as of_featureide
use Rattle.vpg_models.specs.declared.form.Form.{Form}
use Rattle.vpg_models.specs.declared.form.Form.TheVariants as forms
use Rattle.vpg_models.specs.declared.fault.FormFault.{FormFault}
use Rattle.vpg_models.specs.declared.fault.FormFault.TheVariants as told

-- the form of a file with this name: UVL if the name ends in `.uvl`, FeatureIDE's XML if in `.xml`, and else a diagram
abbrev pub form_of : List ℕ → Form
form_of name =
    if ends_with nat_eq name (codes ".uvl") then forms.Uvl
    else (if ends_with nat_eq name (codes ".xml") then forms.FeatureIde else forms.Diagram)

-- the text in UVL spells a feature tree, and the other text is that of its diagram
pub record IsMeantInUvl (text meant : List ℕ) : Type 0 where
  pub tree : FeatureTree
  pub spelled : Spells text tree
  pub meant_is : meant ≡ diagram_text tree

-- the text in FeatureIDE's XML spells a feature tree, and the other text is that of its diagram
pub record IsMeantInXml (text meant : List ℕ) : Type 0 where
  pub tree : FeatureTree
  pub spelled : IsTreeOf text tree
  pub meant_is : meant ≡ diagram_text tree

-- a file of this form and this text means the diagram of that text
abbrev pub Means : Form → (text meant : List ℕ) → Type 0
Means forms.Diagram text meant = meant ≡ text
Means forms.Uvl text meant = IsMeantInUvl text meant
Means forms.FeatureIde text meant = IsMeantInXml text meant

-- Why a text of this form means no diagram: its fault in that language. Out of memory is no fault of the text.
abbrev pub IsFormFault : Form → List ℕ → FormFault → Type 0
IsFormFault forms.Uvl text (told.Uvl fault) = (fault ≢ of_uvl.Memory) × IsFirstFault text fault
IsFormFault forms.FeatureIde text (told.FeatureIde fault) = (fault ≢ of_featureide.Memory) × IsFaultOf text fault
IsFormFault form text told.Memory = ⊤
IsFormFault form text fault = ⊥

-- where attributes begin that the text of a file of this form has, in UVL: the number of bytes before each
abbrev pub attributes_in : Form → List ℕ → List ℕ
attributes_in forms.Diagram text = []
attributes_in forms.Uvl text = attribute_places text
attributes_in forms.FeatureIde text = []

-- the text of a file of this form spells this feature tree
abbrev pub SpellsTree : Form → List ℕ → FeatureTree → Type 0
SpellsTree forms.Diagram text tree = ⊥
SpellsTree forms.Uvl text tree = Spells text tree
SpellsTree forms.FeatureIde text tree = IsTreeOf text tree

-- each diagram that the other text spells has the configurations of the feature tree in this text
abbrev pub HasItsConfigurations : Form → (text meant : List ℕ) → Type 0
HasItsConfigurations form text meant =
    (tree : FeatureTree) (d : NamedDiagram) → SpellsTree form text tree → IsTextOf meant d →
    HasTheConfigurations tree d

-- the other text spells a diagram, if the feature tree in this text is within the limits
abbrev pub IsReadWithinLimits : Form → (text meant : List ℕ) → Type 0
IsReadWithinLimits form text meant =
    (tree : FeatureTree) → SpellsTree form text tree → IsWithinLimits tree → (d : NamedDiagram) × IsTextOf meant d
