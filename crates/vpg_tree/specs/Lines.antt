-- The lines of the feature diagram that a tree stands for, below its root line. This project's own.
use Rattle.std.specs.Prelude.{ℕ, suc, ◌≤◌, ◌≡◌, Bool, List, [], ◌∷◌, ◌++◌, length, map, min, Option, Some, None, IsTrue, count_by}
use Rattle.std.specs.List.{AllByRecursion}
use Rattle.vpg_rules.specs.Constraint.{Constraint, feature, negation, implication, IsMet}
use Rattle.vpg_tree.specs.Tree.{Tree, Group, Kind, Mandatory, Optional, Alternative, Or, Cardinality, members_from, has}

-- A line of a feature diagram. A `rule` line has a formula.
pub data Line : Type 0 where
  mandatory : (parent child : ℕ) → Line
  optional : (parent child : ℕ) → Line
  alternative : (parent : ℕ) (members : List ℕ) → Line
  or : (parent : ℕ) (members : List ℕ) → Line
  group : (parent low high : ℕ) (members : List ℕ) → Line
  requires_line : (feature needed : ℕ) → Line
  excludes_line : (feature other : ℕ) → Line
  rule : Constraint ℕ → Line

-- at most this many of the members, where no bound is none
abbrev pub at_most : Option ℕ → ℕ → ℕ
at_most None all = all
at_most (Some high) all = min high all

-- the lines of a group with these members
abbrev pub group_lines : Kind → ℕ → List ℕ → List Line
group_lines Mandatory parent members = map (mandatory parent) members
group_lines Optional parent members = map (optional parent) members
group_lines Alternative parent members = alternative parent members ∷ []
group_lines Or parent members = or parent members ∷ []
group_lines (Cardinality low high) parent members =
    group parent low (at_most high (length members)) members ∷ []

-- the lines of groups, from the number of the first one on
abbrev pub lines_from : ℕ → List Group → List ℕ → List Line
lines_from first [] places = []
lines_from first (g ∷ gs) places =
    group_lines g.kind g.parent (members_from 1 places first) ++ lines_from (suc first) gs places

-- the line of a constraint: `requires` for `a => b`, `excludes` for `a => !b`, and else `rule`
abbrev pub constraint_line : Constraint ℕ → Line
constraint_line (implication (feature a) (feature b)) = requires_line a b
constraint_line (implication (feature a) (negation (feature b))) = excludes_line a b
constraint_line c = rule c

-- the lines of the groups in order, and those of the constraints
abbrev pub lines_of : Tree → List Line
lines_of tree = lines_from 0 tree.groups tree.places ++ map constraint_line tree.constraints

abbrev pub Has : List Bool → ℕ → Type 0
Has set f = IsTrue (has set f)

-- a group whose members need their parent, and whose parent allows these numbers of members
pub record MeetsMembers (set : List Bool) (parent : ℕ) (members : List ℕ) (Allowed : ℕ → Type 0) : Type 0 where
  pub parents : AllByRecursion (λ f. Has set f → Has set parent) members
  pub number : Has set parent → Allowed (count_by (has set) members)

-- the demand of a line on a set of features, as feature diagrams define it
abbrev pub MeetsLine : List Bool → Line → Type 0
MeetsLine s (mandatory p c) = (Has s c → Has s p) × (Has s p → Has s c)
MeetsLine s (optional p c) = Has s c → Has s p
MeetsLine s (alternative p cs) = MeetsMembers s p cs (λ n. n ≡ 1)
MeetsLine s (or p cs) = MeetsMembers s p cs (λ n. 1 ≤ n)
MeetsLine s (group p low high cs) = MeetsMembers s p cs (λ n. (low ≤ n) × (n ≤ high))
MeetsLine s (requires_line a b) = Has s a → Has s b
MeetsLine s (excludes_line a b) = Has s a → Has s b → ⊥
MeetsLine s (rule c) = IsMet c (has s)
