-- Statements of the laws.
use Rattle.std.specs.Prelude.{◌≡◌, ℕ, List, true, length, flat_map, Some}
use Rattle.std.specs.List.{list_all}
use Rattle.vpg_guards.specs.declared.tri.Tri.{Tri}
use Rattle.vpg_guards.specs.declared.tri.Tri.TheVariants.{Yes}
use Rattle.vpg_diagram.specs.DiagramText.{name_of}
use Rattle.vpg_diagram.specs.declared.clause.Literal.{Literal}
use Rattle.vpg_featureide.specs.Model.{is_name}
use Rattle.vpg_configuration.specs.Configurations.{selecting}
use Rattle.vpg_configuration.specs.Deciding.{Selected, decision_line, Decides}
use Rattle.vpg_configuration.specs.Documents.{decision_lines}
use Rattle.vpg_configuration.specs.Exports.{features_known, settings_of, configuration_text}
use Rattle.vpg_configuration.specs.declared.form.ConfigurationForm.TheVariants as forms

-- the document of a page decides what the page's decisions select, in the document's order
abbrev pub WrittenDecisionsReadBack : Type 0
WrittenDecisionsReadBack =
    (names : List (List ℕ)) (known : List Tri) (decisions : List Literal) → list_all is_name names ≡ true →
    Decides (configuration_text forms.Xml names known decisions) (decision_lines (settings_of names known decisions))

-- the list of a page selects each feature that is known to be in, in the diagram's order
abbrev pub WrittenNamesReadBack : Type 0
WrittenNamesReadBack =
    (names : List (List ℕ)) (known : List Tri) (decisions : List Literal) → list_all is_name names ≡ true →
    selecting (configuration_text forms.Names names known decisions)
    ≡ flat_map (λ f. decision_line (Some Selected) (name_of names f)) (features_known known Yes (length names))
