-- meaning/tree_in_uvl
use Rattle.vpg_tree.specs.Tree.{Tree as FeatureTree}
use Rattle.vpg_models.proofs.meaning.tree_in_uvl.Goals as goal

pub returns-in-Err-clause-only : goal.returns-in-Err-clause-only
returns-in-Err-clause-only c = λ (tree : FeatureTree) h. c.of_uvl.ensures.memory (c.in-Err.ensures.only tree h)

pub returns-in-Err-clause-refused : goal.returns-in-Err-clause-refused
returns-in-Err-clause-refused c = c.of_uvl.ensures.told c.args.text.now c.in-Err.ensures.fault
