-- The configuration of a page: of its decisions, and of what they make known of a diagram's features. This project's
-- own: which features a list has, and the order of those of a document.
use Rattle.std.specs.Prelude.{ℕ, zero, suc, Bool, true, false, ◌==◌, ◌&&◌, if◌then◌else◌, List, [], ◌∷◌, ◌++◌, length, map, flat_map, slice_index_or}
use Rattle.std.specs.List.{list_any}
use Rattle.std.specs.Bool.{beq}
use Rattle.vpg_guards.specs.declared.tri.Tri.{Tri}
use Rattle.vpg_guards.specs.declared.tri.Tri.TheVariants.{No, Unknown, Yes}
use Rattle.vpg_diagram.specs.DiagramText.{name_of}
use Rattle.vpg_diagram.specs.declared.clause.Literal.{Literal}
use Rattle.vpg_configuration.specs.Configurations.{name_line}
use Rattle.vpg_configuration.specs.Deciding.{Selection, Selected, Unselected, Undefined}
use Rattle.vpg_configuration.specs.Documents.{Setting, setting_line, document_text, followed}
use Rattle.vpg_configuration.specs.declared.form.ConfigurationForm.{ConfigurationForm}
use Rattle.vpg_configuration.specs.declared.form.ConfigurationForm.TheVariants as forms

-- ---- what is known

-- whether two values are the same
abbrev pub is_value : Tri → Tri → Bool
is_value No No = true
is_value Unknown Unknown = true
is_value Yes Yes = true
is_value _ _ = false

-- those of the first n features of which this is known, in the diagram's order
abbrev pub features_known : List Tri → Tri → (n : ℕ) → List ℕ
features_known known value zero = []
features_known known value (suc n) =
    features_known known value n ++ (if is_value (slice_index_or known n Unknown) value then n ∷ [] else [])

-- what is known of a feature, as a selection
abbrev pub selection_known : Tri → Selection
selection_known Yes = Selected
selection_known No = Unselected
selection_known Unknown = Undefined

-- ---- what is decided

-- whether a decision is on this feature and has this value
abbrev pub is_decision : ℕ → Bool → Literal → Bool
is_decision f value d = d.feature == f && beq d.value value

-- what the decisions select of a feature
abbrev pub decided_by : List Literal → ℕ → Selection
decided_by decisions f =
    if list_any (is_decision f true) decisions then Selected
    else (if list_any (is_decision f false) decisions then Unselected else Undefined)

-- ---- the text

-- what is said of a feature
abbrev pub setting_of : List (List ℕ) → List Tri → List Literal → ℕ → Setting
setting_of names known decisions f =
    record {
      name = name_of names f;
      automatic = followed (decided_by decisions f) (selection_known (slice_index_or known f Unknown));
      manual = decided_by decisions f;
    }

-- what is said of all features: first of those known in, then of those known out, then of the others
abbrev pub settings_of : List (List ℕ) → List Tri → List Literal → List Setting
settings_of names known decisions =
    map (setting_of names known decisions)
    (features_known known Yes (length names) ++ features_known known No (length names)
    ++ features_known known Unknown (length names))

-- the line of a feature in a configuration of this form
abbrev pub line_of : ConfigurationForm → List (List ℕ) → List Tri → List Literal → ℕ → List ℕ
line_of forms.Names names known decisions f = name_line (name_of names f)
line_of forms.Xml names known decisions f = setting_line (setting_of names known decisions f)

-- The configuration of these names of features, of what is known of each, and of the decisions. As names it has the
-- features that are known to be in, and as a document what is said of all.
abbrev pub configuration_text : ConfigurationForm → List (List ℕ) → List Tri → List Literal → List ℕ
configuration_text forms.Names names known decisions =
    flat_map (line_of forms.Names names known decisions) (features_known known Yes (length names))
configuration_text forms.Xml names known decisions = document_text (settings_of names known decisions)
