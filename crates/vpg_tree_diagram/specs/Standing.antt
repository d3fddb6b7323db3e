-- When a diagram has the configurations of a feature tree, feature by feature, and for which trees the text that is
-- written is that of a diagram. This project's own.
use Rattle.std.specs.Prelude.{ℕ, suc, ◌≤◌, ◌≡◌, ◌↔◌, Bool, List, [], ◌∷◌, ◌++◌, length, map, Some, slice_get, Contains, sum_by, ⊤}
use Rattle.std.specs.List.{AllByRecursion}
use Rattle.vpg_rules.specs.Clauses.{clause_count}
use Rattle.vpg_rules.specs.Grammar.{index_or_end}
use Rattle.vpg_tree.specs.declared.group.Group.{Group}
use Rattle.vpg_tree.specs.Tree.{Tree, members_from, IsConfiguration, has}
use Rattle.vpg_tree.specs.Lines.{Line, group, requires_line, excludes_line, rule, lines_of}
use Rattle.vpg_tree.specs.DiagramText.{name_of}
use Rattle.vpg_diagram.specs.FeatureDiagram.{chosen, IsProduct}
use Rattle.vpg_diagram.specs.DiagramText.{NamedDiagram}

-- the members of groups, from the number of the first group on, in the order of the groups
abbrev pub members_of_groups : ℕ → List Group → List ℕ → List ℕ
members_of_groups first [] places = []
members_of_groups first (g ∷ gs) places = members_from 1 places first ++ members_of_groups (suc first) gs places

-- the features of a tree in the order in which its diagram names them: the root, and then the members of the groups
abbrev pub order_of : Tree → List ℕ
order_of tree = 0 ∷ members_of_groups 0 tree.groups tree.places

-- the same features in a set over a tree and in one over a diagram, each feature by its name
pub record IsSameSet (tree : Tree) (set : List Bool) (d : NamedDiagram) (features : List Bool) : Type 0 where
  pub of_tree : length set ≡ length tree.names
  pub of_diagram : length features ≡ length d.names
  pub same : (f g : ℕ) (name : List ℕ) → slice_get tree.names f ≡ Some name → slice_get d.names g ≡ Some name →
      has set f ≡ chosen features g

-- a set over these names, as one over others: it has each name that the first one has
abbrev pub moved : List (List ℕ) → List Bool → List (List ℕ) → List Bool
moved names set others = map (λ name. has set (index_or_end names name)) others

-- The diagram has the features of the tree by their names, and its products are the tree's configurations. Each set
-- over the one is a set over the other.
pub record HasTheConfigurations (tree : Tree) (d : NamedDiagram) : Type 0 where
  pub names : (name : List ℕ) → Contains d.names name ↔ Contains tree.names name
  pub order : d.names ≡ map (name_of tree.names) (order_of tree)
  pub products : (set features : List Bool) → IsSameSet tree set d features →
      IsConfiguration tree set ↔ IsProduct d.lines features
  pub to_diagram : (set : List Bool) → length set ≡ length tree.names →
      IsSameSet tree set d (moved tree.names set d.names)
  pub to_tree : (features : List Bool) → length features ≡ length d.names →
      IsSameSet tree (moved d.names features tree.names) d features

-- how many rules of a diagram a line is: each clause of a formula is one
abbrev pub rules_of : Line → ℕ
rules_of (requires_line a b) = 1
rules_of (excludes_line a b) = 1
rules_of (rule c) = clause_count c
rules_of _ = 0

-- a line within the limits of diagrams
abbrev pub IsLineWithin : Line → Type 0
IsLineWithin (group parent low high members) = low ≤ high
IsLineWithin (rule c) = clause_count c ≤ 64
IsLineWithin _ = ⊤

-- each constraint with at most 64 clauses, 16,384 in all, and no lower bound above the upper one or the members
pub record IsWithinLimits (tree : Tree) : Type 0 where
  pub lines : AllByRecursion IsLineWithin (lines_of tree)
  pub few_rules : sum_by rules_of (lines_of tree) ≤ 16384
