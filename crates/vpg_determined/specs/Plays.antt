-- Plays against every opponent. The standard of parity games; that a player who cannot move loses is this project's
-- own.
use Rattle.std.specs.Prelude.{◌≡◌, ℕ}
use Rattle.vpg_sides.specs.declared.player.Player.{Player}
use Rattle.vpg_sides.specs.Players.{WinsAt, opponent}
use Rattle.vpg_hope.specs.Games.{Game, HasEdge, owner_of}
use Rattle.vpg_hope.specs.Strategies.{Strategy, Reaches, Wins, IsPlay, IsGreatestRecurring}

-- The player wins every play from the vertex that the strategy allows, whatever the opponent does. An infinite play is
-- won by its greatest recurring priority, and a finite one because the opponent cannot move.
pub record WinsEachPlay (game : Game) (player : Player) (strategy : Strategy) (v : ℕ) : Type 0 where
  pub infinite : (play : ℕ → ℕ) (p : ℕ) → IsPlay game player strategy play → play 0 ≡ v →
      IsGreatestRecurring game play p → WinsAt player p
  pub ended : (u : ℕ) → Reaches game player strategy v u → ((w : ℕ) → HasEdge game u w → ⊥) →
      owner_of game u ≡ opponent player

-- A positional strategy that wins wins every play that it allows.
abbrev pub WinnersWinEachPlay : Type 0
WinnersWinEachPlay = (game : Game) (player : Player) (strategy : Strategy) (v : ℕ) → Wins game player strategy v →
    WinsEachPlay game player strategy v
