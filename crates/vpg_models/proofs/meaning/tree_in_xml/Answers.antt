-- meaning/tree_in_xml
use Rattle.vpg_tree.specs.Tree.{Tree as FeatureTree}
use Rattle.vpg_models.proofs.Documents.{one_tree}
use Rattle.vpg_models.proofs.meaning.tree_in_xml.Goals as goal

pub returns-in-Ok-clause-only : goal.returns-in-Ok-clause-only
returns-in-Ok-clause-only c =
    λ (tree : FeatureTree) h. one_tree c.args.text.now c.in-Ok.tree tree c.in-Ok.ensures.only h
