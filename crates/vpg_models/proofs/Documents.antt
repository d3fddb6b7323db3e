-- A text in FeatureIDE's XML spells one tree.
use Rattle.std.proofs.Common.{◌≡◌, ℕ, List, Result, Ok, Err, sym, ap, ◌∙◌}
use Rattle.vpg_tree.specs.Tree.{Tree}
use Rattle.vpg_xml.specs.Elements.{Document}
use Rattle.vpg_xml.specs.Nesting.{Spells}
use Rattle.vpg_featureide.specs.Formulas.{FeatureModel}
use Rattle.vpg_featureide.specs.Trees.{tree_of, IsTreeOf, IsTreeIn}
use Rattle.vpg_featureide.specs.declared.fault.ModelFault.{ModelFault}

abbrev model_or : FeatureModel → Result FeatureModel ModelFault → FeatureModel
model_or m (Ok n) = n
model_or m (Err e) = m

-- a tree that is read of each document of the text is the one that the text spells
pub one_tree : (text : List ℕ) (read tree : Tree) → ((d : Document) → Spells text d → IsTreeIn d read) → IsTreeOf text tree → read ≡ tree
one_tree text read tree only h =
    let it = only h.spelled.document h.spelled.spells in
    it.is ∙ ap (λ (r : Result FeatureModel ModelFault). tree_of (model_or it.model r)) (sym it.read ∙ h.spelled.is) ∙ sym h.is
