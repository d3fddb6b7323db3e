-- The laws, as statements.
use Rattle.std.specs.Prelude.{◌≡◌, ◌≢◌, ℕ, ◌<◌, ◌⊎◌, ◌↔◌, Bool, List, length}
use Rattle.vpg_sides.specs.declared.player.Player.{Player}
use Rattle.vpg_sides.specs.declared.player.Player.TheVariants.{Even, Odd}
use Rattle.vpg_guards.specs.declared.tri.Tri.{Tri}
use Rattle.vpg_sides.specs.Players.{WinsAt}
use Rattle.vpg_hope.specs.Games.{Game, IsClosed, owner_of, priorities}
use Rattle.vpg_hope.specs.Strategies.{Strategy, Reaches, Walk, Wins, IsPlay, IsGreatestRecurring, IsSimpleCycle}
use Rattle.vpg_measure.specs.Measures.{Shape, IsShape, Measure, IsMeasure, AtMost, Top}
use Rattle.vpg_measure.specs.Tables.{Table, IsTable, zero_table, IsProg, IsLift, IsLeastOfProgs, IsGreatestOfProgs, FitsAt, IsProgressMeasure, IsBelow, IsBelowAllAt, IsBelowAllProgress, IsLeastProgress, FollowsLeast}
use Rattle.vpg_hope.specs.Comparison.{IsEasier}
use Rattle.vpg_game.specs.Guarded.{GuardedGame, guarded_priorities, IsClosedGuarded, dual}
use Rattle.vpg_hope.specs.Hope.{product_game, hopeful_game, AgreesWithTruth, Extends, IsFullOf}

-- Measures of one shape are totally ordered.
abbrev pub AtMostIsTotalOrder : Type 0
AtMostIsTotalOrder = record {
  reflexive : (a : Measure) → AtMost a a;
  transitive : (a b c : Measure) → AtMost a b → AtMost b c → AtMost a c;
  antisymmetric : (a b : Measure) → AtMost a b → AtMost b a → a ≡ b;
  total : (shape : Shape) (a b : Measure) → IsMeasure shape a → IsMeasure shape b → AtMost a b ⊎ AtMost b a;
}

-- each game has one shape
abbrev pub ShapeExists : Type 0
ShapeExists = (vertex_priorities : List ℕ) → (shape : Shape) × IsShape vertex_priorities shape

-- Priorities have one shape.
abbrev pub ShapeIsUnique : Type 0
ShapeIsUnique =
    (vertex_priorities : List ℕ) (a b : Shape) → IsShape vertex_priorities a → IsShape vertex_priorities b → a ≡ b

-- each priority and value have one least measure that fits
abbrev pub ProgExists : Type 0
ProgExists = (shape : Shape) (p : ℕ) (value : Measure) → IsMeasure shape value → (m : Measure) × IsProg shape p value m

-- There is one least measure that fits an edge.
abbrev pub ProgIsUnique : Type 0
ProgIsUnique = (shape : Shape) (p : ℕ) (value m n : Measure) → IsProg shape p value m → IsProg shape p value n → m ≡ n

-- At each vertex of a closed game there is a least measure that fits.
abbrev pub LiftExists : Type 0
LiftExists =
    (shape : Shape) (game : Game) (table : Table) (v : ℕ) → IsClosed game → IsTable shape game table → (m : Measure) ×
    IsLift shape game table v m

-- There is one least measure that fits at a vertex.
abbrev pub LiftIsUnique : Type 0
LiftIsUnique =
    (shape : Shape) (game : Game) (table : Table) (v : ℕ) (m n : Measure) → IsLift shape game table v m →
    IsLift shape game table v n → m ≡ n

-- Even's lift is the least prog.
abbrev pub EvenLiftsToLeast : Type 0
EvenLiftsToLeast =
    (shape : Shape) (game : Game) (table : Table) (v : ℕ) (m : Measure) → IsClosed game → IsTable shape game table →
    owner_of game v ≡ Even → IsLeastOfProgs shape game table v m → IsLift shape game table v m

-- Odd's lift is the greatest prog.
abbrev pub OddLiftsToGreatest : Type 0
OddLiftsToGreatest =
    (shape : Shape) (game : Game) (table : Table) (v : ℕ) (m : Measure) → IsClosed game → IsTable shape game table →
    owner_of game v ≡ Odd → IsGreatestOfProgs shape game table v m → IsLift shape game table v m

-- a value fits exactly if the lift does not exceed it
abbrev pub FitsFromLift : Type 0
FitsFromLift =
    (shape : Shape) (game : Game) (table : Table) (v : ℕ) (m n : Measure) → IsMeasure shape n →
    IsLift shape game table v m → FitsAt shape game table v n ↔ AtMost m n

-- a progress table is one that no lift raises
abbrev pub ProgressIsUnraised : Type 0
ProgressIsUnraised = (shape : Shape) (game : Game) (table : Table) → IsClosed game → IsTable shape game table →
    IsProgressMeasure shape game table ↔
    ((v : ℕ) (m : Measure) → v < length game → IsLift shape game table v m → AtMost m (table v))

-- Over a greater table no lift is smaller.
abbrev pub LiftIsMonotone : Type 0
LiftIsMonotone =
    (shape : Shape) (game : Game) (low high : Table) (v : ℕ) (m n : Measure) → IsClosed game → IsBelow game low high →
    IsLift shape game low v m → IsLift shape game high v n → AtMost m n

-- the lift of a table below a progress table is below it
abbrev pub LiftStaysBelow : Type 0
LiftStaysBelow =
    (shape : Shape) (game : Game) (table progress : Table) (v : ℕ) (m : Measure) → IsClosed game → v < length game →
    IsProgressMeasure shape game progress → IsBelow game table progress → IsLift shape game table v m →
    AtMost m (progress v)

-- so a raise to the lift keeps a table below every progress table, also a raise to the lift of an older table
abbrev pub RaiseStaysBelow : Type 0
RaiseStaysBelow = (shape : Shape) (game : Game) (seen : Table) (v : ℕ) (m : Measure) → IsClosed game → v < length game →
    IsBelowAllProgress shape game seen → IsLift shape game seen v m → IsBelowAllAt shape game v m

-- the zero table is below every progress table
abbrev pub ZeroIsBelow : Type 0
ZeroIsBelow = (shape : Shape) (game : Game) → IsBelowAllProgress shape game (zero_table shape)

-- A closed game has a least progress table.
abbrev pub LeastExists : Type 0
LeastExists = (shape : Shape) (game : Game) → IsClosed game → (least : Table) × IsLeastProgress shape game least

-- A game has one least progress table at most.
abbrev pub LeastIsUnique : Type 0
LeastIsUnique =
    (shape : Shape) (game : Game) (s t : Table) → IsLeastProgress shape game s → IsLeastProgress shape game t →
    (v : ℕ) → v < length game → s v ≡ t v

-- choosing successors of least prog wins from every vertex below Top
abbrev pub LeastProgWins : Type 0
LeastProgWins =
    (shape : Shape) (game : Game) (table : Table) (strategy : Strategy) → IsClosed game →
    IsProgressMeasure shape game table → FollowsLeast shape game table strategy →
    (v : ℕ) → v < length game → table v ≢ Top → Wins game Even strategy v

-- some strategy wins from every vertex below Top
abbrev pub ProgressWins : Type 0
ProgressWins = (shape : Shape) (game : Game) (table : Table) → IsClosed game → IsProgressMeasure shape game table →
    (strategy : Strategy) × ((v : ℕ) → v < length game → table v ≢ Top → Wins game Even strategy v)

-- Top in a table below every progress table refutes every winning strategy
abbrev pub TopRefutes : Type 0
TopRefutes =
    (shape : Shape) (game : Game) (table : Table) → IsClosed game → IsShape (priorities game) shape →
    IsBelowAllProgress shape game table →
    (v : ℕ) → v < length game → table v ≡ Top → (strategy : Strategy) → Wins game Even strategy v → ⊥

-- a winning strategy gives a progress table below Top
abbrev pub WinGivesProgress : Type 0
WinGivesProgress =
    (shape : Shape) (game : Game) (strategy : Strategy) (v : ℕ) → IsClosed game → IsShape (priorities game) shape →
    v < length game → Wins game Even strategy v →
    (table : Table) × IsProgressMeasure shape game table × (table v ≢ Top)

-- The least progress table is at the top exactly where no strategy of Even wins.
abbrev pub LeastDecides : Type 0
LeastDecides =
    (shape : Shape) (game : Game) (table : Table) → IsClosed game → IsShape (priorities game) shape →
    IsLeastProgress shape game table →
    (v : ℕ) → v < length game → (table v ≡ Top) ↔ ((strategy : Strategy) → Wins game Even strategy v → ⊥)

-- a winning strategy wins every infinite play that it allows
abbrev pub EveryPlayIsWon : Type 0
EveryPlayIsWon =
    (game : Game) (player : Player) (strategy : Strategy) (play : ℕ → ℕ) (p : ℕ) → IsPlay game player strategy play →
    Wins game player strategy (play 0) →
    IsGreatestRecurring game play p → WinsAt player p

-- closed walks and simple cycles decide alike
abbrev pub SimpleCyclesDecide : Type 0
SimpleCyclesDecide = (game : Game) (player : Player) (strategy : Strategy) (v : ℕ) →
    ((u m : ℕ) → Reaches game player strategy v u → Walk game player strategy u u m → WinsAt player m) ↔
    ((u m : ℕ) (vs : List ℕ) → Reaches game player strategy v u → IsSimpleCycle game player strategy u vs m →
    WinsAt player m)

-- A progress table is one of every easier game.
abbrev pub HarderProgressIsEasier : Type 0
HarderProgressIsEasier =
    (easy hard : Game) → IsEasier easy hard → (shape : Shape) (table : Table) → IsProgressMeasure shape hard table →
    IsProgressMeasure shape easy table

-- A table below every progress table is below every one in each harder game.
abbrev pub BelowStaysInHarder : Type 0
BelowStaysInHarder =
    (easy hard : Game) → IsEasier easy hard → (shape : Shape) (table : Table) → IsBelowAllProgress shape easy table →
    IsBelowAllProgress shape hard table

-- A value below that of every progress table at a vertex is so in each harder game.
abbrev pub ValueStaysInHarder : Type 0
ValueStaysInHarder =
    (easy hard : Game) → IsEasier easy hard → (shape : Shape) (v : ℕ) (m : Measure) → IsBelowAllAt shape easy v m →
    IsBelowAllAt shape hard v m

-- A strategy that wins for Even wins in every easier game.
abbrev pub WinStaysInEasier : Type 0
WinStaysInEasier =
    (easy hard : Game) → IsEasier easy hard → (strategy : Strategy) (v : ℕ) → Wins hard Even strategy v →
    Wins easy Even strategy v

-- so a value below every progress table stays so when more is known
abbrev pub ValueStaysWhenMoreIsKnown : Type 0 → Type 0
ValueStaysWhenMoreIsKnown Guard =
    (earlier later : Guard → Tri) (game : GuardedGame Guard) (shape : Shape) (v : ℕ) (m : Measure) →
    Extends later earlier game →
    IsBelowAllAt shape (hopeful_game earlier game) v m → IsBelowAllAt shape (hopeful_game later game) v m

-- a hopeless vertex has no winning strategy for Even in any product that agrees with what is known
abbrev pub HopelessLoses : Type 0 → Type 0
HopelessLoses Guard =
    (value : Guard → Tri) (game : GuardedGame Guard) (shape : Shape) (table : Table) → IsClosedGuarded game →
    IsShape (guarded_priorities game) shape → IsBelowAllProgress shape (hopeful_game value game) table →
    (v : ℕ) → v < length game → table v ≡ Top → (truth : Guard → Bool) → AgreesWithTruth value truth game →
    (strategy : Strategy) → Wins (product_game truth game) Even strategy v → ⊥

-- a sure vertex has no winning strategy for Odd in any product that agrees with what is known
abbrev pub SureWins : Type 0 → Type 0
SureWins Guard =
    (value : Guard → Tri) (game : GuardedGame Guard) (shape : Shape) (table : Table) → IsClosedGuarded game →
    IsShape (guarded_priorities (dual game)) shape → IsBelowAllProgress shape (hopeful_game value (dual game)) table →
    (v : ℕ) → v < length game → table v ≡ Top → (truth : Guard → Bool) → AgreesWithTruth value truth game →
    (strategy : Strategy) → Wins (product_game truth game) Odd strategy v → ⊥

-- if everything is known, Even wins in the product from each possible vertex, by successors of least prog
abbrev pub PossibleWins : Type 0 → Type 0
PossibleWins Guard =
    (value : Guard → Tri) (truth : Guard → Bool) (game : GuardedGame Guard) → IsFullOf value truth game →
    (shape : Shape) (table : Table) (strategy : Strategy) → IsClosedGuarded game →
    IsProgressMeasure shape (hopeful_game value game) table →
    FollowsLeast shape (hopeful_game value game) table strategy → (v : ℕ) → v < length game → table v ≢ Top →
    Wins (product_game truth game) Even strategy v

-- if everything is known, Odd wins in the product from each unsure vertex
abbrev pub UnsureLoses : Type 0 → Type 0
UnsureLoses Guard =
    (value : Guard → Tri) (truth : Guard → Bool) (game : GuardedGame Guard) → IsFullOf value truth game →
    (shape : Shape) (table : Table) → IsClosedGuarded game →
    IsProgressMeasure shape (hopeful_game value (dual game)) table → (v : ℕ) → v < length game → table v ≢ Top →
    (strategy : Strategy) × Wins (product_game truth game) Odd strategy v

-- if everything is known, no vertex is both possible and unsure
abbrev pub NotPossibleAndUnsure : Type 0 → Type 0
NotPossibleAndUnsure Guard =
    (value : Guard → Tri) (truth : Guard → Bool) (game : GuardedGame Guard) → IsFullOf value truth game →
    (shape dual_shape : Shape) (table dual_table : Table) → IsClosedGuarded game →
    IsProgressMeasure shape (hopeful_game value game) table →
    IsProgressMeasure dual_shape (hopeful_game value (dual game)) dual_table → (v : ℕ) → v < length game →
    table v ≢ Top → dual_table v ≢ Top → ⊥
