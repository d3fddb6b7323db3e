-- How a configuration is written in XML: the format of FeatureIDE (Thüm et al., 2014). This project's own: what a
-- person decided is not said to follow too.
use Rattle.std.specs.Prelude.{ℕ, List, ◌++◌, flat_map, Some, codes}
use Rattle.vpg_configuration.specs.Deciding.{Selection, Selected, Unselected, Undefined, selection_word, decision_line}

-- what is said of a feature: what propagation selected, and what a person did
pub record Setting : Type 0 where
  pub name : List ℕ
  pub automatic : Selection
  pub manual : Selection

-- the line with a feature's element
abbrev pub setting_line : Setting → List ℕ
setting_line s =
    codes "\t<feature automatic=\"" ++ selection_word s.automatic ++ codes "\" manual=\"" ++ selection_word s.manual
    ++ codes "\" name=\"" ++ s.name ++ codes "\"/>\n"

-- the text of a document
abbrev pub document_text : List Setting → List ℕ
document_text settings =
    codes "<?xml version=\"1.0\" encoding=\"UTF-8\" standalone=\"no\"?>\n<configuration>\n"
    ++ flat_map setting_line settings ++ codes "</configuration>\n"

-- the lines of a script for what a person decided
abbrev pub decision_lines : List Setting → List ℕ
decision_lines settings = flat_map (λ s. decision_line (Some s.manual) s.name) settings

-- what propagation selected, if this is known and a person selected that
abbrev pub followed : Selection → Selection → Selection
followed Undefined known = known
followed Selected known = Undefined
followed Unselected known = Undefined
