-- One step after another of an attractor, in the game of one product. Zielonka 1998.
use Rattle.std.specs.Prelude.{◌≡◌, ℕ, ◌⊎◌, true, false}
use Rattle.vpg_sides.specs.declared.player.Player.{Player}
use Rattle.vpg_sides.specs.Players.{opponent}
use Rattle.vpg_hope.specs.Games.{Game, HasEdge, owner_of}
use Rattle.vpg_zielonka.specs.Attractors.{Vertices, Attracted}

-- each edge from the vertex within the part leads to the set
abbrev pub Confines : Game → Vertices → Vertices → ℕ → Type 0
Confines game part set v = (w : ℕ) → HasEdge game v w → part w ≡ true → set w ≡ true

-- the first vertex joins the set because of its edge to the second
pub record Joins (game : Game) (player : Player) (part set : Vertices) (v w : ℕ) : Type 0 where
  pub inside : part v ≡ true
  pub there : set w ≡ true
  pub new : set v ≡ false
  pub draws : (owner_of game v ≡ player) ⊎ Confines game part set v

-- the player can move from the vertex into the set, or the opponent can only do so, and can move
abbrev pub IsDrawn : Game → Player → Vertices → Vertices → ℕ → Type 0
IsDrawn game player part set v =
    ((owner_of game v ≡ player) × (w : ℕ) × HasEdge game v w × (part w ≡ true) × (set w ≡ true)) ⊎
    ((owner_of game v ≡ opponent player) × Confines game part set v × (w : ℕ) × HasEdge game v w × (part w ≡ true))

-- what is drawn into the set is in it, or one of its edges into the set waits to be looked at
abbrev pub IsSettled : Game → Player → Vertices → Vertices → (ℕ → ℕ → Type 0) → Type 0
IsSettled game player part set Waits = (v : ℕ) → part v ≡ true → IsDrawn game player part set v → (set v ≡ true) ⊎
    ((w : ℕ) × HasEdge game v w × (set w ≡ true) × Waits v w)

-- a greater set, whose vertices are all drawn into the smaller one
pub record IsDrawnFrom (game : Game) (player : Player) (part few many : Vertices) : Type 0 where
  pub more : (v : ℕ) → few v ≡ true → many v ≡ true
  pub only : (v : ℕ) → many v ≡ true → Attracted game player part few v
