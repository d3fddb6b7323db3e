-- One round of the recursion of Zielonka 1998, in the game of each product (FASE 2020).
use Rattle.std.specs.Prelude.{◌≡◌, ℕ, Bool, true, false, ◌&&◌, not}
use Rattle.vpg_sides.specs.declared.player.Player.{Player}
use Rattle.vpg_sides.specs.Players.{opponent}
use Rattle.vpg_hope.specs.Games.{Game, HasEdge, owner_of, priority_of}
use Rattle.vpg_zielonka.specs.Attractors.{Vertices, IsAttractor, IsRest, IsJoined}

-- from each vertex of the part some edge leads to the part
abbrev pub IsLive : Game → Vertices → Type 0
IsLive game part = (v : ℕ) → part v ≡ true → (w : ℕ) × HasEdge game v w × (part w ≡ true)

-- a seed, or the opponent of who draws can move within the part
abbrev pub IsLiveOrSeed : Game → Player → Vertices → Vertices → Type 0
IsLiveOrSeed game player part seeds = (v : ℕ) → part v ≡ true → owner_of game v ≡ opponent player →
    (seeds v ≡ false) → (w : ℕ) × HasEdge game v w × (part w ≡ true)

-- the vertices of a priority in a part of the game
pub record AreTops (game : Game) (part : Vertices) (d : ℕ) (seeds : Vertices) : Type 0 where
  pub inside : (v : ℕ) → seeds v ≡ true → part v ≡ true
  pub priority : (v : ℕ) → seeds v ≡ true → priority_of game v ≡ d
  pub all : (v : ℕ) → part v ≡ true → priority_of game v ≡ d → seeds v ≡ true

-- the vertices of the player in the part from which no edge leads to the part
pub record AreStuck (game : Game) (player : Player) (part seeds : Vertices) : Type 0 where
  pub inside : (v : ℕ) → seeds v ≡ true → part v ≡ true
  pub owner : (v : ℕ) → seeds v ≡ true → owner_of game v ≡ player
  pub none : (v w : ℕ) → seeds v ≡ true → HasEdge game v w → part w ≡ true → ⊥
  pub all : (v : ℕ) → part v ≡ true → owner_of game v ≡ player → seeds v ≡ false → (w : ℕ) × HasEdge game v w ×
      (part w ≡ true)

-- what is left of a part without the attractor of its vertices of a priority
pub record IsBelowTops (game : Game) (player : Player) (d : ℕ) (part left : Vertices) : Type 0 where
  pub seeds : Vertices
  pub drawn : Vertices
  pub tops : AreTops game part d seeds
  pub attractor : IsAttractor game player part seeds drawn
  pub rest : IsRest left part drawn

-- A round given away: if the opponent of the player won something in what was below the tops, its attractor of that is
-- the opponent's, and the rest goes on; if not, all of the part is the player's.
pub record IsGivenAway (game : Game) (player : Player) (part others left : Vertices)
    (before after : Player → Vertices) : Type 0 where
  pub some : Bool
  pub drawn : Vertices
  pub none : some ≡ false → (v : ℕ) → others v ≡ false
  pub attractor : IsAttractor game (opponent player) part others drawn
  pub others_more : IsJoined (after (opponent player)) (before (opponent player)) drawn
  pub own_more : IsJoined (after player) (before player) (λ v. part v && not some)
  pub rest : IsRest left (λ v. part v && some) drawn

-- The vertices where the opponent of the player has no move are given to the player, with what it draws to them.
pub record IsWithoutStuck (game : Game) (player : Player) (part left : Vertices)
    (before after : Player → Vertices) : Type 0 where
  pub seeds : Vertices
  pub drawn : Vertices
  pub stuck : AreStuck game (opponent player) part seeds
  pub attractor : IsAttractor game player part seeds drawn
  pub own_more : IsJoined (after player) (before player) drawn
  pub others_stay : (v : ℕ) → after (opponent player) v ≡ before (opponent player) v
  pub rest : IsRest left part drawn
