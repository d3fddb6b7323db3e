-- Feature trees with cross-tree constraints, and their configurations. The kinds of groups are those of Kang et al.
-- (FODA, 1990), with the cardinalities of Schobbens et al. (2007); the constraints are those of Batory (2005).
use Rattle.std.specs.Prelude.{ℕ, suc, ◌+◌, ◌<◌, ◌≤◌, ◌≡◌, Bool, false, ◌==◌, if◌then◌else◌, List, [], ◌∷◌, length, Some, slice_index_or, slice_get, IsTrue, IfSome, IsSomeAnd, count_by, ⊤}
use Rattle.std.specs.List.{AllByRecursion}
use Rattle.vpg_features.specs.Names.{AreNames}
use Rattle.vpg_rules.specs.Constraint.{Constraint, IsMet, IsBelow}
pub use Rattle.vpg_tree.specs.declared.group.Kind.{Kind}
pub use Rattle.vpg_tree.specs.declared.group.Kind.TheVariants.{Mandatory, Optional, Alternative, Or, Cardinality}
pub use Rattle.vpg_tree.specs.declared.group.Group.{Group}

-- A tree of features, which are numbered from 0; the root is feature 0. Each feature below the root is a member of one
-- group, and each group has one feature as its parent.
pub record Tree : Type 0 where
  -- the names of the features, in order
  pub names : List (List ℕ)
  pub groups : List Group
  -- for each feature below the root, in order, the number of its group
  pub places : List ℕ
  pub constraints : List (Constraint ℕ)

-- among features from a first one on, with these groups, the members of a group
abbrev pub members_from : ℕ → List ℕ → ℕ → List ℕ
members_from first [] group = []
members_from first (place ∷ places) group =
    if place == group then first ∷ members_from (suc first) places group else members_from (suc first) places group

-- the members of a group, in order
abbrev pub members : Tree → ℕ → List ℕ
members tree group = members_from 1 tree.places group

-- the features from a first one on are members of groups whose parents come before them
abbrev pub ArePlaced : List Group → ℕ → List ℕ → Type 0
ArePlaced groups first [] = ⊤
ArePlaced groups first (place ∷ places) =
    IsSomeAnd (slice_get groups place) (λ group. group.parent < first) × ArePlaced groups (suc first) places

-- a tree with a root: names, each once; each group below a feature, and each feature but the root in a group whose
-- parent comes before it; constraints over its features
pub record IsTree (tree : Tree) : Type 0 where
  pub names : AreNames tree.names
  pub each_placed : length tree.names ≡ length tree.places + 1
  pub parents : AllByRecursion (λ group. group.parent < length tree.names) tree.groups
  pub members : ArePlaced tree.groups 1 tree.places
  pub constraints : AllByRecursion (IsBelow (length tree.names)) tree.constraints

-- a set of features has a feature
abbrev pub has : List Bool → ℕ → Bool
has set f = slice_index_or set f false

-- of so many members so many may be in a configuration that has the parent
abbrev pub Allows : Kind → ℕ → ℕ → Type 0
Allows Mandatory all number = number ≡ all
Allows Optional all number = ⊤
Allows Alternative all number = number ≡ 1
Allows Or all number = 1 ≤ number
Allows (Cardinality low high) all number = (low ≤ number) × IfSome high (λ most. number ≤ most)

-- members that a set has have their parent in it, and with the parent it has as many members as the group allows
pub record MeetsGroup (set : List Bool) (group : Group) (members : List ℕ) : Type 0 where
  pub parents : AllByRecursion (λ f. IsTrue (has set f) → IsTrue (has set group.parent)) members
  pub number : IsTrue (has set group.parent) → Allows group.kind (length members) (count_by (has set) members)

-- a set of features that has the root, and meets each group and each constraint
pub record IsConfiguration (tree : Tree) (set : List Bool) : Type 0 where
  pub length_is : length set ≡ length tree.names
  pub root : IsTrue (has set 0)
  pub groups : (number : ℕ) (group : Group) → slice_get tree.groups number ≡ Some group →
      MeetsGroup set group (members tree number)
  pub constraints : AllByRecursion (λ c. IsMet c (has set)) tree.constraints
