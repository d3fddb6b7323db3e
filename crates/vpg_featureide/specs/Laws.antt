-- Statements of the laws.
use Rattle.std.specs.Prelude.{ℕ, List}
use Rattle.vpg_tree.specs.Tree.{Tree, IsTree}
use Rattle.vpg_tree.specs.InOrder.{IsInOrder}
use Rattle.vpg_featureide.specs.Trees.{IsTreeOf}

-- each tree that a text stands for is in order
abbrev pub TreesAreInOrder : Type 0
TreesAreInOrder = (text : List ℕ) (tree : Tree) → IsTreeOf text tree → IsTree tree → IsInOrder tree
