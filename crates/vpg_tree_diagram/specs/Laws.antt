-- Statements of the laws.
use Rattle.vpg_tree.specs.Tree.{Tree}
use Rattle.vpg_tree.specs.DiagramText.{diagram_text}
use Rattle.vpg_diagram.specs.DiagramText.{NamedDiagram, IsTextOf}
use Rattle.vpg_tree.specs.InOrder.{IsInOrder}
use Rattle.vpg_tree_diagram.specs.Standing.{HasTheConfigurations, IsWithinLimits}

-- each diagram that the text of a tree spells has the tree's configurations as its products
abbrev pub TreesMeanTheirDiagrams : Type 0
TreesMeanTheirDiagrams =
    (tree : Tree) (d : NamedDiagram) → IsInOrder tree → IsTextOf (diagram_text tree) d → HasTheConfigurations tree d

-- the text of a tree within the limits spells a diagram
abbrev pub TreesWithinLimitsAreRead : Type 0
TreesWithinLimitsAreRead =
    (tree : Tree) → IsInOrder tree → IsWithinLimits tree → (d : NamedDiagram) × IsTextOf (diagram_text tree) d
