-- Universes of sets of products: decision diagrams over all products (Bryant 1986), or words over listed ones. This
-- project's own.
use Rattle.std.specs.Prelude.{◌≡◌, ℕ, ◌≤◌, ⊤, Bool, List, length}
use Rattle.vpg_guards.specs.Formula.{Formula, truth}
use Rattle.vpg_sets.specs.declared.node.Set.{Set}
use Rattle.vpg_sets.specs.declared.fault.SetsFault.{SetsFault}
use Rattle.vpg_sets.specs.declared.fault.SetsFault.TheVariants.{Full}
use Rattle.vpg_sets.specs.Sets as diagrams
use Rattle.vpg_zielonka.specs.Words.{in_word, Fits, IsListed}
use Rattle.vpg_zielonka.specs.declared.subset.Subset.{Subset}
use Rattle.vpg_zielonka.specs.declared.subset.Subset.TheVariants.{Node, Bits}
use Rattle.vpg_zielonka.specs.declared.universe.Universe.{Universe}
use Rattle.vpg_zielonka.specs.declared.universe.Universe.TheVariants.{Diagrams, Listed}

-- the node of a set, that of the empty set if it has bits; the bits of a set, none if it is a node
abbrev pub node_of : Subset → Set
node_of (Node set) = set
node_of (Bits word) = record { node = 0 }

abbrev pub bits_of : Subset → ℕ
bits_of (Node set) = 0
bits_of (Bits word) = word

-- what stands beyond the end of a list of sets
abbrev pub no_subset : Subset
no_subset = Node (record { node = 0 })

-- the number of the features
abbrev pub features_of : Universe → ℕ
features_of (Diagrams arena) = arena.features
features_of (Listed listing) = listing.features

-- The universe knows the product: diagrams know every product, and words those that agree with a listed one.
abbrev pub IsKnown : Universe → List Bool → Type 0
IsKnown (Diagrams arena) product = ⊤
IsKnown (Listed listing) product = IsListed listing.products product

-- the set is one of the universe
abbrev pub IsInside : Universe → Subset → Type 0
IsInside (Diagrams arena) set = diagrams.IsInside arena (node_of set)
IsInside (Listed listing) set = Fits listing.products (bits_of set)

-- whether the set has a product
abbrev pub has : Universe → Subset → List Bool → Bool
has (Diagrams arena) set product = diagrams.has arena (node_of set) product
has (Listed listing) set product = in_word listing.products (bits_of set) product

-- the set is one of the universe, and has the products that pass the test
pub record IsSetOf (universe : Universe) (test : List Bool → Bool) (set : Subset) : Type 0 where
  pub inside : IsInside universe set
  pub each : (product : List Bool) → has universe set product ≡ test product

-- the set is one of the universe, and has those of the known products in which the formula is true
pub record IsGuardSet (universe : Universe) (formula : Formula) (set : Subset) : Type 0 where
  pub inside : IsInside universe set
  pub each : (product : List Bool) → IsKnown universe product → has universe set product ≡ truth product formula

-- diagrams may have more nodes, and words stay what they are
abbrev pub Grows : Universe → Universe → Type 0
Grows (Diagrams old) (Diagrams new) = diagrams.IsGrown old new
Grows (Diagrams old) (Listed new) = ⊥
Grows (Listed old) (Diagrams new) = ⊥
Grows (Listed old) (Listed new) = new ≡ old

-- The universe is of the same kind, over the same features, and knows the same products. Each set of it has the same
-- products as before.
pub record IsGrown (old new : Universe) : Type 0 where
  pub kind : Grows old new
  pub features : features_of new ≡ features_of old
  pub known : (product : List Bool) → IsKnown new product → IsKnown old product
  pub inside : (set : Subset) → IsInside old set → IsInside new set
  pub same : (set : Subset) → IsInside old set → (product : List Bool) → has new set product ≡ has old set product

-- diagrams with as many nodes as they may have; words are never full
abbrev pub IsAtLimit : Universe → Type 0
IsAtLimit (Diagrams arena) = arena.limit ≤ length arena.nodes
IsAtLimit (Listed listing) = ⊥

-- the fault is `Full` only if the universe is at its limit
abbrev pub IsTrueFault : Universe → SetsFault → Type 0
IsTrueFault universe fault = fault ≡ Full → IsAtLimit universe

-- the universe has diagrams, and they are these
abbrev pub AreDiagrams : Universe → Type 0
AreDiagrams (Diagrams arena) = ⊤
AreDiagrams (Listed listing) = ⊥

abbrev pub IsOf : Universe → diagrams.Arena → Type 0
IsOf (Diagrams arena) sets = sets ≡ arena
IsOf (Listed listing) sets = ⊥
