-- Tables of measures: measures that fit at a vertex, lifts, progress tables and the least one. Jurdzinski 2000.
use Rattle.std.specs.Prelude.{◌≡◌, ◌≢◌, ℕ, ◌<◌, ◌⊎◌, length, Some}
use Rattle.vpg_sides.specs.declared.player.Player.{Player}
use Rattle.vpg_sides.specs.declared.player.Player.TheVariants.{Even, Odd}
use Rattle.vpg_hope.specs.Games.{Game, HasEdge, owner_of, priority_of}
use Rattle.vpg_hope.specs.Strategies.{Strategy}
use Rattle.vpg_measure.specs.Measures.{Shape, Measure, IsMeasure, AtMost, Fits, zero_measure, Top}

abbrev pub Table : Type 0
Table = ℕ → Measure

-- the least measure that fits an edge from a vertex of this priority to one with this value
pub record IsProg (shape : Shape) (p : ℕ) (value m : Measure) : Type 0 where
  pub in_range : IsMeasure shape m
  pub fits : Fits shape p m value
  pub least : (n : Measure) → IsMeasure shape n → Fits shape p n value → AtMost m n

-- Even needs one edge that the measure fits, or Top; Odd needs all
abbrev pub FitsFor : Player → Shape → Game → Table → ℕ → Measure → Type 0
FitsFor Even shape game table v m =
    (m ≡ Top) ⊎ ((w : ℕ) × HasEdge game v w × Fits shape (priority_of game v) m (table w))
FitsFor Odd shape game table v m = (w : ℕ) → HasEdge game v w → Fits shape (priority_of game v) m (table w)

abbrev pub FitsAt : Shape → Game → Table → ℕ → Measure → Type 0
FitsAt shape game table v m = FitsFor (owner_of game v) shape game table v m

-- the least measure that fits at the vertex
pub record IsLift (shape : Shape) (game : Game) (table : Table) (v : ℕ) (m : Measure) : Type 0 where
  pub in_range : IsMeasure shape m
  pub fits : FitsAt shape game table v m
  pub least : (n : Measure) → IsMeasure shape n → FitsAt shape game table v n → AtMost m n

-- the least of Top and the progs over the edges of the vertex
pub record IsLeastOfProgs (shape : Shape) (game : Game) (table : Table) (v : ℕ) (m : Measure) : Type 0 where
  pub attained : (m ≡ Top) ⊎ ((w : ℕ) × HasEdge game v w × IsProg shape (priority_of game v) (table w) m)
  pub least : (w : ℕ) (n : Measure) → HasEdge game v w → IsProg shape (priority_of game v) (table w) n → AtMost m n

-- the greatest of zero and the progs over the edges of the vertex
pub record IsGreatestOfProgs (shape : Shape) (game : Game) (table : Table) (v : ℕ) (m : Measure) : Type 0 where
  pub attained : (m ≡ zero_measure shape) ⊎ ((w : ℕ) × HasEdge game v w × IsProg shape (priority_of game v) (table w) m)
  pub greatest : (w : ℕ) (n : Measure) → HasEdge game v w → IsProg shape (priority_of game v) (table w) n → AtMost n m

abbrev pub zero_table : Shape → Table
zero_table shape v = zero_measure shape

abbrev pub IsTable : Shape → Game → Table → Type 0
IsTable shape game table = (v : ℕ) → v < length game → IsMeasure shape (table v)

-- each value fits at its vertex
pub record IsProgressMeasure (shape : Shape) (game : Game) (table : Table) : Type 0 where
  pub in_range : IsTable shape game table
  pub fits : (v : ℕ) → v < length game → FitsAt shape game table v (table v)

abbrev pub IsBelow : Game → Table → Table → Type 0
IsBelow game lower upper = (v : ℕ) → v < length game → AtMost (lower v) (upper v)

-- at most the value of every progress table at the vertex
abbrev pub IsBelowAllAt : Shape → Game → ℕ → Measure → Type 0
IsBelowAllAt shape game v m = (progress : Table) → IsProgressMeasure shape game progress → AtMost m (progress v)

abbrev pub IsBelowAllProgress : Shape → Game → Table → Type 0
IsBelowAllProgress shape game table = (v : ℕ) → v < length game → IsBelowAllAt shape game v (table v)

pub record IsLeastProgress (shape : Shape) (game : Game) (table : Table) : Type 0 where
  pub progress : IsProgressMeasure shape game table
  pub below : IsBelowAllProgress shape game table

-- an edge with a prog no greater than that of any other
pub record IsLeastSuccessor (shape : Shape) (game : Game) (table : Table) (v w : ℕ) : Type 0 where
  pub is_edge : HasEdge game v w
  pub least : (x : ℕ) (m n : Measure) → HasEdge game v x → IsProg shape (priority_of game v) (table w) m →
      IsProg shape (priority_of game v) (table x) n → AtMost m n

-- at each vertex of Even below Top the strategy chooses a successor of least prog
abbrev pub FollowsLeast : Shape → Game → Table → Strategy → Type 0
FollowsLeast shape game table strategy =
    (v : ℕ) → v < length game → owner_of game v ≡ Even → table v ≢ Top → (w : ℕ) × (strategy v ≡ Some w) ×
    IsLeastSuccessor shape game table v w
