-- Who wins from a vertex, for each product of a set. FASE 2020; winning: the standard of parity games.
use Rattle.std.specs.Prelude.{◌≡◌, ℕ, zero, suc, ◌<◌, ◌≤◌, ◌⊎◌, List, [], ◌∷◌, ◌++◌, Bool, true, cond, length, map, slice_index_or}
use Rattle.std.specs.Global.{Vec}
use Rattle.vpg_sides.specs.declared.player.Player.{Player}
use Rattle.vpg_sides.specs.declared.player.Player.TheVariants.{Even, Odd}
use Rattle.vpg_guards.specs.Formula.{Formula}
use Rattle.vpg_game.specs.Guarded.{GuardedGame}
use Rattle.vpg_determined.specs.Determined.{HasWin}
use Rattle.vpg_sets.specs.Sets.{Arena}
use Rattle.vpg_sets.specs.Sets as diagrams
use Rattle.vpg_sets.specs.declared.node.Set.{Set}
use Rattle.vpg_zielonka.specs.Words.{bit}
use Rattle.vpg_zielonka.specs.declared.subset.Subset.{Subset}
use Rattle.vpg_zielonka.specs.declared.universe.Universe.{Universe}
use Rattle.vpg_zielonka.specs.Universes.{IsInside, has}
use Rattle.vpg_zielonka.specs.Parts.{AreSets, part_in, game_in}
use Rattle.vpg_zielonka.specs.Attractors.{Vertices}
use Rattle.vpg_zielonka.specs.declared.winners.Division.{Division}
use Rattle.vpg_zielonka.specs.declared.winners.Shares.{Shares}
use Rattle.vpg_zielonka.specs.declared.winners.Winners.{Winners}

-- The products of the set in which Even wins from the vertex, and those in which Odd does: each product of the
-- set is in one of the two sets, and no other is.
pub record IsDivided (arena : Arena) (graph : GuardedGame Formula) (vertex : ℕ) (products : Set) (division : Division) :
    Type 0 where
  pub won_inside : diagrams.IsInside arena division.won
  pub lost_inside : diagrams.IsInside arena division.lost
  pub won : (product : List Bool) → diagrams.has arena division.won product ≡ true →
      HasWin (game_in graph product) Even vertex
  pub lost : (product : List Bool) → diagrams.has arena division.lost product ≡ true →
      HasWin (game_in graph product) Odd vertex
  pub all : (product : List Bool) → diagrams.has arena products product ≡ true →
      (diagrams.has arena division.won product ≡ true) ⊎ (diagrams.has arena division.lost product ≡ true)
  pub only : (product : List Bool) →
      (diagrams.has arena division.won product ≡ true) ⊎ (diagrams.has arena division.lost product ≡ true) →
      diagrams.has arena products product ≡ true

-- the same for sets of a universe
pub record AreShared (universe : Universe) (graph : GuardedGame Formula) (vertex : ℕ) (products : Subset)
    (shares : Shares) : Type 0 where
  pub won_inside : IsInside universe shares.won
  pub lost_inside : IsInside universe shares.lost
  pub won : (product : List Bool) → has universe shares.won product ≡ true →
      HasWin (game_in graph product) Even vertex
  pub lost : (product : List Bool) → has universe shares.lost product ≡ true →
      HasWin (game_in graph product) Odd vertex
  pub all : (product : List Bool) → has universe products product ≡ true →
      (has universe shares.won product ≡ true) ⊎ (has universe shares.lost product ≡ true)
  pub only : (product : List Bool) →
      (has universe shares.won product ≡ true) ⊎ (has universe shares.lost product ≡ true) →
      has universe products product ≡ true

-- the lists of the features of products
abbrev pub lists_of : List (Vec Bool) → List (List Bool)
lists_of products = map (λ (product : Vec Bool). product.items) products

-- for each product of a list, in order, the player that wins from the vertex
pub record AreWinnersOf (graph : GuardedGame Formula) (vertex : ℕ) (products : List (List Bool))
    (winners : List Player) : Type 0 where
  pub count : length winners ≡ length products
  pub each : (k : ℕ) → k < length products →
      HasWin (game_in graph (slice_index_or products k [])) (slice_index_or winners k Even) vertex

-- for the first products of a list, in order, the player that wins from the vertex
pub record AreFirstWinners (graph : GuardedGame Formula) (vertex : ℕ) (products : List (List Bool))
    (winners : List Player) : Type 0 where
  pub count : length winners ≤ length products
  pub each : (k : ℕ) → k < length winners →
      HasWin (game_in graph (slice_index_or products k [])) (slice_index_or winners k Even) vertex

-- the player that a bit stands for, and those of the first bits of a word
abbrev pub winner_by : ℕ → ℕ → Player
winner_by word place = cond (bit word place) Even Odd

abbrev pub players : ℕ → ℕ → List Player
players word zero = []
players word (suc n) = players word n ++ winner_by word n ∷ []

-- for each product of a list its bit stands for the player that wins from the vertex
abbrev pub ArePlayersOf : GuardedGame Formula → ℕ → List (List Bool) → ℕ → Type 0
ArePlayersOf graph vertex products word = (k : ℕ) → k < length products →
    HasWin (game_in graph (slice_index_or products k [])) (winner_by word k) vertex

-- the sets of a player
abbrev pub sets_of : Winners → Player → List Subset
sets_of winners Even = winners.won.items
sets_of winners Odd = winners.lost.items

-- what each player wins in a product
abbrev pub wins_in : Universe → Winners → List Bool → Player → Vertices
wins_in universe winners product player = part_in universe (sets_of winners player) product

-- the sets of both players are sets of the universe
pub record AreWinners (universe : Universe) (count : ℕ) (winners : Winners) : Type 0 where
  pub won : AreSets universe count winners.won.items
  pub lost : AreSets universe count winners.lost.items
