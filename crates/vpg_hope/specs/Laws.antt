-- The laws, as statements.
use Rattle.std.specs.Prelude.{◌≡◌, ℕ, ◌<◌, ◌↔◌, Bool, length}
use Rattle.vpg_sides.specs.declared.player.Player.{Player}
use Rattle.vpg_sides.specs.declared.player.Player.TheVariants.{Even, Odd}
use Rattle.vpg_guards.specs.declared.tri.Tri.{Tri}
use Rattle.vpg_sides.specs.Players.{opponent}
use Rattle.vpg_hope.specs.Games.{Game, IsClosed}
use Rattle.vpg_hope.specs.Strategies.{Strategy, Wins}
use Rattle.vpg_hope.specs.Comparison.{IsEasier, dual_game}
use Rattle.vpg_game.specs.Guarded.{GuardedGame, dual}
use Rattle.vpg_hope.specs.Hope.{product_game, hopeful_game, AgreesWithTruth, Extends, IsFullOf}

-- Even and Odd do not both win from one vertex.
abbrev pub NotBothWin : Type 0
NotBothWin =
    (game : Game) (for_even for_odd : Strategy) (v : ℕ) → Wins game Even for_even v → Wins game Odd for_odd v → ⊥

-- A strategy wins for a player exactly if it wins for the other player in the dual.
abbrev pub DualExchangesWins : Type 0
DualExchangesWins = (game : Game) (player : Player) (strategy : Strategy) (v : ℕ) → IsClosed game → v < length game →
    Wins game player strategy v ↔ Wins (dual_game game) (opponent player) strategy v

-- the hopeful game favours Even at least as much as the game of each product that agrees with what is known
abbrev pub HopefulIsEasier : Type 0 → Type 0
HopefulIsEasier Guard =
    (value : Guard → Tri) (truth : Guard → Bool) (game : GuardedGame Guard) → AgreesWithTruth value truth game →
    IsEasier (hopeful_game value game) (product_game truth game)

-- and as much as the hopeful game when more is known
abbrev pub EarlierIsEasier : Type 0 → Type 0
EarlierIsEasier Guard =
    (earlier later : Guard → Tri) (game : GuardedGame Guard) → Extends later earlier game →
    IsEasier (hopeful_game earlier game) (hopeful_game later game)

-- if everything is known, the hopeful game is that of the product
abbrev pub FullIsProduct : Type 0 → Type 0
FullIsProduct Guard =
    (value : Guard → Tri) (truth : Guard → Bool) (game : GuardedGame Guard) → IsFullOf value truth game →
    hopeful_game value game ≡ product_game truth game

-- In a product the dual's game is the dual of the game.
abbrev pub DualOfProduct : Type 0 → Type 0
DualOfProduct Guard =
    (truth : Guard → Bool) (game : GuardedGame Guard) →
    product_game truth (dual game) ≡ dual_game (product_game truth game)
