-- The vertices of a part of a game from which a player draws each play into a set. Zielonka 1998; that a vertex may
-- have no move is this project's own.
use Rattle.std.specs.Prelude.{◌≡◌, ℕ, Bool, true, not, ◌&&◌, ◌||◌, ◌↔◌}
use Rattle.vpg_sides.specs.declared.player.Player.{Player}
use Rattle.vpg_sides.specs.Players.{opponent}
use Rattle.vpg_hope.specs.Games.{Game, HasEdge, owner_of}

-- a set of vertices, as a test
abbrev pub Vertices : Type 0
Vertices = ℕ → Bool

-- From the vertex the player draws each play into the seeds, within a part of the game: it is a seed, or the player has
-- an edge to such a vertex, or the opponent has no other edges in the part.
pub data Attracted (game : Game) (player : Player) (part seeds : Vertices) : ℕ → Type 0 where
  seed : {v : ℕ} → seeds v ≡ true → Attracted game player part seeds v
  moved : {v w : ℕ} → part v ≡ true → owner_of game v ≡ player → HasEdge game v w →
      Attracted game player part seeds w → Attracted game player part seeds v
  forced : {v : ℕ} → part v ≡ true → owner_of game v ≡ opponent player →
      ((w : ℕ) → HasEdge game v w → part w ≡ true → Attracted game player part seeds w) →
      Attracted game player part seeds v

-- all vertices from which the player draws each play into the seeds, and no others
abbrev pub IsAttractor : Game → Player → Vertices → Vertices → Vertices → Type 0
IsAttractor game player part seeds set = (v : ℕ) → (set v ≡ true) ↔ Attracted game player part seeds v

-- one part without another, and two parts together
abbrev pub IsRest : Vertices → Vertices → Vertices → Type 0
IsRest left part set = (v : ℕ) → left v ≡ (part v && not (set v))

abbrev pub IsJoined : Vertices → Vertices → Vertices → Type 0
IsJoined both one two = (v : ℕ) → both v ≡ (one v || two v)

-- each vertex of the first part is in the second
abbrev pub IsWithin : Vertices → Vertices → Type 0
IsWithin few many = (v : ℕ) → few v ≡ true → many v ≡ true
