-- Moves, reachable vertices and walks.
use Rattle.std.proofs.Common.{◌≡◌, ℕ, ◌<◌, ◌⊎◌, inl, inr, length, refl}
use Rattle.vpg_sides.specs.declared.player.Player.{Player}
use Rattle.vpg_sides.specs.declared.player.Player.TheVariants.{Even, Odd}
use Rattle.vpg_sides.specs.Players.{opponent}
use Rattle.vpg_hope.specs.Games.{Game}
use Rattle.vpg_hope.specs.Strategies.{Strategy, AllowsMove, Reaches}
use Rattle.vpg_hope.specs.Strategies.{here, onward}
use Rattle.vpg_hope.proofs.Edges.{AreEdgesInside}

-- whoever moves is the player or the opponent
pub cases_player : (p q : Player) → (p ≡ q) ⊎ (p ≡ opponent q)
cases_player Even Even = inl refl
cases_player Even Odd = inr refl
cases_player Odd Even = inr refl
cases_player Odd Odd = inl refl

pub not_opponent : (p : Player) → opponent p ≡ p → ⊥
not_opponent Even e = cc
not_opponent Odd e = cc

module _ (game : Game) (player : Player) (strategy : Strategy) where
  -- moves one after another
  pub reaches_trans : {u v w : ℕ} → Reaches game player strategy u v → Reaches game player strategy v w → Reaches game player strategy u w
  reaches_trans here r = r
  reaches_trans (onward a q) r = onward a (reaches_trans q r)

  pub reaches_move : {u v w : ℕ} → Reaches game player strategy u v → AllowsMove game player strategy v w → Reaches game player strategy u w
  reaches_move r a = reaches_trans r (onward a here)

  -- what is reached is a vertex
  pub reaches_inside : {u v : ℕ} → AreEdgesInside game → u < length game → Reaches game player strategy u v → v < length game
  reaches_inside closed l here = l
  reaches_inside closed l (onward {v} {w} a r) = reaches_inside closed (closed v w a.0) r
