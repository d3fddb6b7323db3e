-- Trees whose text is made of lines of diagrams. This project's own.
use Rattle.std.specs.Prelude.{ℕ, zero, suc, ◌<◌, ◌≤◌, ◌^◌, List, [], ◌∷◌, length, slice_get, IsSomeAnd, ⊤}
use Rattle.std.specs.List.{AllByRecursion}
use Rattle.vpg_tree.specs.Tree.{Tree, Group, Kind, Mandatory, Optional, Alternative, Or, Cardinality, members_from, IsTree}
use Rattle.vpg_tree.specs.Laws.{JoinsTwo, open_signs}

-- a group of this kind has a member, if its line names its members
abbrev pub HasMembers : Kind → List ℕ → Type 0
HasMembers Mandatory members = ⊤
HasMembers Optional members = ⊤
HasMembers Alternative members = 0 < length members
HasMembers Or members = 0 < length members
HasMembers (Cardinality low high) members = 0 < length members

-- a feature that is the root, or a member of a group before that of this number
abbrev pub ComesBefore : List ℕ → ℕ → ℕ → Type 0
ComesBefore places number zero = ⊤
ComesBefore places number (suc f) = IsSomeAnd (slice_get places f) (λ place. place < number)

-- groups, from the number of the first one on, that stand after the groups of their parents and have the members that
-- their lines need
abbrev pub AreInOrder : ℕ → List Group → List ℕ → Type 0
AreInOrder first [] places = ⊤
AreInOrder first (g ∷ gs) places =
    ComesBefore places first g.parent × HasMembers g.kind (members_from 1 places first) ×
    AreInOrder (suc first) gs places

-- the bounds of a group's kind are numbers of a machine word
abbrev pub HasShortBounds : Kind → Type 0
HasShortBounds (Cardinality low high) = low < 2 ^ 64
HasShortBounds _ = ⊤

-- A tree in order: its text is made of lines of diagrams. Its groups stand in order, and its rules can be read back.
pub record IsInOrder (tree : Tree) : Type 0 where
  pub is_tree : IsTree tree
  pub groups : AreInOrder 0 tree.groups tree.places
  pub bounds : AllByRecursion (λ g. HasShortBounds g.kind) tree.groups
  pub joins : AllByRecursion JoinsTwo tree.constraints
  -- at most 64 signs are open at one place of a rule's text
  pub few_signs : AllByRecursion (λ c. open_signs c ≤ 64) tree.constraints
