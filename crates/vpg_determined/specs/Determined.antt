-- The determinacy of parity games, as statements. Emerson and Jutla 1991; the proof follows Zielonka 1998.
use Rattle.std.specs.Prelude.{◌≡◌, ◌≢◌, ℕ, ◌<◌, ◌⊎◌, ◌↔◌, length}
use Rattle.vpg_sides.specs.declared.player.Player.{Player}
use Rattle.vpg_sides.specs.declared.player.Player.TheVariants.{Even, Odd}
use Rattle.vpg_hope.specs.Comparison.{IsEasier, dual_game}
use Rattle.vpg_hope.specs.Games.{Game, IsClosed, priorities}
use Rattle.vpg_hope.specs.Strategies.{Strategy, Wins}
use Rattle.vpg_measure.specs.Measures.{Shape, IsShape, Top}
use Rattle.vpg_measure.specs.Tables.{Table, IsBelowAllProgress, IsLeastProgress}
use Rattle.vpg_determined.specs.Plays.{WinsEachPlay}

-- some positional strategy of the player wins from the vertex
abbrev pub HasWin : Game → Player → ℕ → Type 0
HasWin game player v = (strategy : Strategy) × Wins game player strategy v

-- From each vertex of a closed game one of the two players wins, by a positional strategy.
abbrev pub GamesAreDetermined : Type 0
GamesAreDetermined = (game : Game) (v : ℕ) → IsClosed game → v < length game → HasWin game Even v ⊎ HasWin game Odd v

-- One strategy serves both players and every vertex: its choice at a vertex counts for the owner alone.
abbrev pub OneStrategyServesBoth : Type 0
OneStrategyServesBoth = (game : Game) → IsClosed game → (strategy : Strategy) ×
    ((v : ℕ) → v < length game → Wins game Even strategy v ⊎ Wins game Odd strategy v)

-- By one strategy one of the players wins from each vertex, and wins every play.
abbrev pub PlaysAreDetermined : Type 0
PlaysAreDetermined = (game : Game) → IsClosed game → (strategy : Strategy) ×
    ((v : ℕ) → v < length game → (player : Player) × Wins game player strategy v ×
    WinsEachPlay game player strategy v)

-- The least progress table is at the top exactly where Odd wins, and below it exactly where Even does.
abbrev pub LeastTellsWinner : Type 0
LeastTellsWinner =
    (shape : Shape) (game : Game) (table : Table) → IsClosed game → IsShape (priorities game) shape →
    IsLeastProgress shape game table → (v : ℕ) → v < length game →
    ((table v ≡ Top) ↔ HasWin game Odd v) × ((table v ≢ Top) ↔ HasWin game Even v)

-- Let one game favour Even at least as much as another. Then a table below all progress tables of the first and one
-- below those of the other's dual are not both at the top. Even wins the first game, or Odd the other.
abbrev pub NotBothTop : Type 0
NotBothTop =
    (easy hard : Game) (shape dual_shape : Shape) (table dual_table : Table) → IsEasier easy hard → IsClosed easy →
    IsClosed hard → IsShape (priorities easy) shape → IsShape (priorities (dual_game hard)) dual_shape →
    IsBelowAllProgress shape easy table → IsBelowAllProgress dual_shape (dual_game hard) dual_table →
    (v : ℕ) → v < length easy → table v ≡ Top → dual_table v ≡ Top → ⊥
