-- Positional strategies, the plays that they allow, and winning. The standard of parity games; that a player who cannot
-- move loses is this project's own.
use Rattle.std.specs.Prelude.{◌≡◌, ◌≢◌, ℕ, suc, ◌≤◌, max, Option, Some, List, [], ◌∷◌, map, All, AllPairs, Contains}
use Rattle.vpg_sides.specs.declared.player.Player.{Player}
use Rattle.vpg_sides.specs.Players.{WinsAt}
use Rattle.vpg_hope.specs.Games.{Game, HasEdge, owner_of, priority_of}

-- at most one successor for each vertex; only the choices at the player's own vertices count
abbrev pub Strategy : Type 0
Strategy = ℕ → Option ℕ

-- a move along an edge that, at the player's own vertices, is the chosen one
abbrev pub AllowsMove : Game → Player → Strategy → ℕ → ℕ → Type 0
AllowsMove game player strategy v w = HasEdge game v w × (owner_of game v ≡ player → strategy v ≡ Some w)

-- some moves, or none, lead from the first vertex to the second
pub data Reaches (game : Game) (player : Player) (strategy : Strategy) : ℕ → ℕ → Type 0 where
  here : {v : ℕ} → Reaches game player strategy v v
  onward : {v w u : ℕ} → AllowsMove game player strategy v w → Reaches game player strategy w u →
      Reaches game player strategy v u

-- one move or more lead from the first vertex to the second, and leave vertices of this greatest priority
pub data Walk (game : Game) (player : Player) (strategy : Strategy) : ℕ → ℕ → ℕ → Type 0 where
  move : {v w : ℕ} → AllowsMove game player strategy v w → Walk game player strategy v w (priority_of game v)
  moves : {v w u m : ℕ} → AllowsMove game player strategy v w → Walk game player strategy w u m →
      Walk game player strategy v u (max (priority_of game v) m)

-- from this vertex the player never reaches one of its own without a chosen edge, and each cycle that can be reached
-- has the player's parity
pub record Wins (game : Game) (player : Player) (strategy : Strategy) (v : ℕ) : Type 0 where
  pub can_move : (u : ℕ) → Reaches game player strategy v u → owner_of game u ≡ player → (w : ℕ) ×
      AllowsMove game player strategy u w
  pub cycles : (u m : ℕ) → Reaches game player strategy v u → Walk game player strategy u u m → WinsAt player m

-- moves from the first vertex to the second that leave these vertices in this order
pub data Path (game : Game) (player : Player) (strategy : Strategy) : ℕ → ℕ → List ℕ → Type 0 where
  done : {v : ℕ} → Path game player strategy v v []
  step : {v w u : ℕ} {vs : List ℕ} → AllowsMove game player strategy v w → Path game player strategy w u vs →
      Path game player strategy v u (v ∷ vs)

-- a cycle through these vertices, no two the same, with this greatest priority
pub record IsSimpleCycle (game : Game) (player : Player) (strategy : Strategy) (v : ℕ) (vs : List ℕ)
    (m : ℕ) : Type 0 where
  pub path : Path game player strategy v v vs
  pub distinct : AllPairs (λ a b. a ≢ b) vs
  pub bounded : All (λ u. priority_of game u ≤ m) vs
  pub attained : Contains (map (priority_of game) vs) m

-- an infinite play that the strategy allows
abbrev pub IsPlay : Game → Player → Strategy → (ℕ → ℕ) → Type 0
IsPlay game player strategy play = (i : ℕ) → AllowsMove game player strategy (play i) (play (suc i))

-- the greatest priority that occurs infinitely often: it comes again and again, and from some time on no greater one
-- comes
pub record IsGreatestRecurring (game : Game) (play : ℕ → ℕ) (p : ℕ) : Type 0 where
  pub again : (n : ℕ) → (i : ℕ) × (n ≤ i) × (priority_of game (play i) ≡ p)
  pub greatest : (n : ℕ) × ((i : ℕ) → n ≤ i → priority_of game (play i) ≤ p)
