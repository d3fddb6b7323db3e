-- Statements of the laws.
use Rattle.std.specs.Prelude.{◌≡◌, ℕ, true, not, ◌||◌, ◌==◌, Bool, List, ◌++◌, codes}
use Rattle.std.specs.List.{list_all}
use Rattle.vpg_tree.specs.Tree.{Tree, IsTree}
use Rattle.vpg_tree.specs.InOrder.{IsInOrder}
use Rattle.vpg_uvl.specs.Arrows.{grouped}
use Rattle.vpg_uvl.specs.Model.{Spells}

-- neither a parenthesis nor a part of an arrow
abbrev pub is_inner : ℕ → Bool
is_inner b = not (b == 40 || b == 41 || b == 60 || b == 61 || b == 62)

abbrev pub AreInner : List ℕ → Type 0
AreInner text = list_all is_inner text ≡ true

-- in a chain of two `=>` without parentheses, the first one with its sides is the left side of the second
abbrev pub ChainsGroupToTheLeft : Type 0
ChainsGroupToTheLeft =
    (x y z : List ℕ) → AreInner x → AreInner y → AreInner z →
    grouped (x ++ codes "=>" ++ y ++ codes "=>" ++ z) ≡ codes "((" ++ x ++ codes ")=>" ++ y ++ codes ")=>" ++ z

-- each tree that a text spells is in order
abbrev pub SpelledTreesAreInOrder : Type 0
SpelledTreesAreInOrder = (text : List ℕ) (tree : Tree) → Spells text tree → IsTree tree → IsInOrder tree
