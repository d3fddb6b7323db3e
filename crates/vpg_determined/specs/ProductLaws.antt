-- Determinacy for product lines, as statements: a verdict has moves that win in every product that is left. This
-- project's own.
use Rattle.std.specs.Prelude.{◌≡◌, ℕ, ◌<◌, ◌⊎◌, Bool, List, length, slice_index}
use Rattle.vpg_sides.specs.declared.player.Player.{Player}
use Rattle.vpg_sides.specs.declared.player.Player.TheVariants.{Even, Odd}
use Rattle.vpg_guards.specs.declared.tri.Tri.{Tri}
use Rattle.vpg_game.specs.Guarded.{GuardedGame, guarded_priorities, IsClosedGuarded, dual}
use Rattle.vpg_hope.specs.Hope.{product_game, hopeful_game, cautious_game, AgreesWithTruth}
use Rattle.vpg_hope.specs.Strategies.{Strategy, Wins}
use Rattle.vpg_sides.specs.declared.which.Which.{Which}
use Rattle.vpg_sides.specs.declared.which.Which.TheVariants.{Hopeful, Dual}
use Rattle.vpg_measure.specs.Least.{IsValueBelow}
use Rattle.vpg_measure.specs.Measures.{Shape, IsShape, Top}
use Rattle.vpg_measure.specs.Orders.{other_table}
use Rattle.vpg_measure.specs.Tables.{Table, IsBelowAllProgress}
use Rattle.vpg_measure.specs.TwoGames.{game_for, levels_for, top_for, arena_for, IsTableBelow}
use Rattle.vpg_determined.specs.Determined.{HasWin}

-- who stands as Even in the game of a table
abbrev pub player_for : Which → Player
player_for Hopeful = Even
player_for Dual = Odd

-- One strategy of the player wins from the vertex in the game of every product that agrees with what is known. It wins
-- the cautious game too, of the game for Even and of the dual for Odd.
pub record HasWinningMoves {Guard : Type 0} (value : Guard → Tri) (mover : Which) (game : GuardedGame Guard)
    (v : ℕ) : Type 0 where
  pub strategy : Strategy
  pub cautious : Wins (cautious_game value (game_for mover game)) Even strategy v
  pub wins : (truth : Guard → Bool) → AgreesWithTruth value truth game →
      Wins (product_game truth game) (player_for mover) strategy v

-- Either one player wins its hopeful game, or the other wins every product that agrees with what is known.
abbrev pub HopeOrCautionWins : Type 0 → Type 0
HopeOrCautionWins Guard =
    (value : Guard → Tri) (mover : Which) (game : GuardedGame Guard) (v : ℕ) → IsClosedGuarded game →
    v < length game → HasWin (arena_for value (other_table mover) game) Even v ⊎ HasWinningMoves value mover game v

-- a hopeless vertex is won by Odd in every product that agrees with what is known, by one strategy
abbrev pub HopelessIsLost : Type 0 → Type 0
HopelessIsLost Guard =
    (value : Guard → Tri) (game : GuardedGame Guard) (shape : Shape) (table : Table) → IsClosedGuarded game →
    IsShape (guarded_priorities game) shape → IsBelowAllProgress shape (hopeful_game value game) table →
    (v : ℕ) → v < length game → table v ≡ Top → HasWinningMoves value Dual game v

-- a sure vertex is won by Even in every product that agrees with what is known, by one strategy
abbrev pub SureIsWon : Type 0 → Type 0
SureIsWon Guard =
    (value : Guard → Tri) (game : GuardedGame Guard) (shape : Shape) (table : Table) → IsClosedGuarded game →
    IsShape (guarded_priorities (dual game)) shape → IsBelowAllProgress shape (hopeful_game value (dual game)) table →
    (v : ℕ) → v < length game → table v ≡ Top → HasWinningMoves value Hopeful game v

-- If every progress table of one player's hopeful game has the top at the vertex, the other player wins so.
abbrev pub TopsHaveMoves : Type 0 → Type 0
TopsHaveMoves Guard =
    (value : Guard → Tri) (mover : Which) (game : GuardedGame Guard) (v : ℕ) → IsClosedGuarded game →
    v < length game →
    IsValueBelow (levels_for (other_table mover) game) (arena_for value (other_table mover) game) v
    (top_for (other_table mover) game) →
    HasWinningMoves value mover game v

-- if a table of a page has the top at the vertex, the other player wins so
abbrev pub VerdictsHaveMoves : Type 0 → Type 0
VerdictsHaveMoves Guard =
    (value : Guard → Tri) (mover : Which) (game : GuardedGame Guard) (numbers : List ℕ) → IsClosedGuarded game →
    IsTableBelow value (other_table mover) game numbers → (v : ℕ) → v < length game →
    slice_index numbers v ≡ top_for (other_table mover) game → HasWinningMoves value mover game v

-- Tables of a page are not both at the top at one vertex, whatever is known, even if no product is left.
abbrev pub NotHopelessAndSure : Type 0 → Type 0
NotHopelessAndSure Guard =
    (value : Guard → Tri) (game : GuardedGame Guard) (hopeful dual : List ℕ) → IsClosedGuarded game →
    IsTableBelow value Hopeful game hopeful → IsTableBelow value Dual game dual → (v : ℕ) → v < length game →
    slice_index hopeful v ≡ top_for Hopeful game → slice_index dual v ≡ top_for Dual game → ⊥
