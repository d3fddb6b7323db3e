-- For each vertex a set of products: one part of the game in each product. FASE 2020.
use Rattle.std.specs.Prelude.{◌≡◌, ℕ, ◌<◌, List, Bool, ◌&&◌, length, nat_lt, slice_index_or}
use Rattle.vpg_guards.specs.Formula.{Formula, truth}
use Rattle.vpg_game.specs.Guarded.{GuardedGame}
use Rattle.vpg_hope.specs.Games.{Game}
use Rattle.vpg_hope.specs.Hope.{product_game}
use Rattle.vpg_zielonka.specs.declared.subset.Subset.{Subset}
use Rattle.vpg_zielonka.specs.declared.universe.Universe.{Universe}
use Rattle.vpg_zielonka.specs.Universes.{no_subset, IsInside, has}
use Rattle.vpg_zielonka.specs.Attractors.{Vertices}

-- the game of a product
abbrev pub game_in : GuardedGame Formula → List Bool → Game
game_in graph product = product_game (truth product) graph

-- the set of a vertex
abbrev pub set_at : List Subset → ℕ → Subset
set_at sets v = slice_index_or sets v no_subset

-- each is a set of the universe
pub record AreSets (universe : Universe) (count : ℕ) (sets : List Subset) : Type 0 where
  pub count_is : length sets ≡ count
  pub inside : (v : ℕ) → v < length sets → IsInside universe (set_at sets v)

-- the vertices whose sets have the product
unfoldable pub part_in : Universe → List Subset → List Bool → Vertices
part_in universe sets product v = nat_lt v (length sets) && has universe (set_at sets v) product
