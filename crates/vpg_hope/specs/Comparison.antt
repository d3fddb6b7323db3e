-- Games that favour Even more, and the dual of a plain game.
use Rattle.std.specs.Prelude.{◌≡◌, ℕ, suc, length, map}
use Rattle.vpg_sides.specs.declared.player.Player.TheVariants.{Even, Odd}
use Rattle.vpg_sides.specs.Players.{opponent}
use Rattle.vpg_hope.specs.Games.{Game, HasEdge, owner_of, priority_of}

-- the first game is the second with no fewer edges for Even and no more for Odd
pub record IsEasier (easy hard : Game) : Type 0 where
  pub same_count : length easy ≡ length hard
  pub same_owner : (v : ℕ) → owner_of easy v ≡ owner_of hard v
  pub same_priority : (v : ℕ) → priority_of easy v ≡ priority_of hard v
  pub even : (v w : ℕ) → owner_of hard v ≡ Even → HasEdge hard v w → HasEdge easy v w
  pub odd : (v w : ℕ) → owner_of hard v ≡ Odd → HasEdge easy v w → HasEdge hard v w

-- owners exchanged, priorities plus one
abbrev pub dual_game : Game → Game
dual_game game =
    map (λ vertex. record { owner = opponent vertex.owner; priority = suc vertex.priority; successors = vertex.successors }) game
