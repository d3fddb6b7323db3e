-- Who wins where in a part of a game. Zielonka 1998.
use Rattle.std.specs.Prelude.{◌≡◌, ℕ, true}
use Rattle.vpg_sides.specs.declared.player.Player.{Player}
use Rattle.vpg_sides.specs.Players.{opponent}
use Rattle.vpg_hope.specs.Games.{Game}
use Rattle.vpg_hope.specs.Strategies.{Strategy}
use Rattle.vpg_determined.proofs.Dominions.{IsDominion}
use Rattle.vpg_determined.proofs.Solved.{Nowhere}
use Rattle.vpg_zielonka.specs.Attractors.{Vertices}

-- each vertex of a part of a game is won by one of the players, by moves that serve both
pub record IsSolution (game : Game) (part : Vertices) (wins : Player → Vertices) : Type 0 where
  pub moves : Strategy
  pub won : (p : Player) → IsDominion game p part Nowhere (λ v. wins p v ≡ true) moves
  pub each : (v : ℕ) → part v ≡ true → (p : Player) × (wins p v ≡ true)
  pub apart : (p : Player) (v : ℕ) → wins p v ≡ true → wins (opponent p) v ≡ true → ⊥
