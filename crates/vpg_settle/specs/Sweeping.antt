-- The harvests of sweeps and guesses of an order. This project's own.
use Rattle.std.specs.Prelude.{◌≡◌, ℕ, zero, suc, ◌+◌, ◌<◌, ◌≤◌, ◌⊎◌, max, List, length, slice_index, Option, Some, None, sum}
use Rattle.vpg_game.specs.declared.levels.Level.{Level}
use Rattle.vpg_hope.specs.Arena.{Vertex, vertex_at}
use Rattle.vpg_sides.specs.declared.which.Which.{Which}
use Rattle.vpg_measure.specs.Lifts.{IsBelowTable, IsProgressTable, lift_of}
use Rattle.vpg_measure.specs.Orders.{OrderView, HarvestView, IsHarvest, IsSameOrder, IsOrderAgain, IsSettledHarvest, order_table, harvest_table, order_levels, order_arena}

-- two orders of one page: they may differ in their tables alone
pub record IsOfPage (one other : OrderView) : Type 0 where
  pub game : one.game ≡ other.game
  pub diagram : one.diagram ≡ other.diagram
  pub decisions : one.decisions ≡ other.decisions
  pub known : one.known ≡ other.known

-- A harvest of the order's page, on or above the order's tables. One that isn't settled exceeds them in sum by at least
-- the number of sweeps.
pub record IsSweptOrder (order : OrderView) (sweeps : ℕ) (harvest : HarvestView) : Type 0 where
  pub lawful : IsHarvest harvest
  pub page : IsOfPage harvest.order order
  pub above : (which : Which) → IsBelowTable (order_table which order) (harvest_table which harvest)
  pub moved : ¬ IsSettledHarvest harvest →
      sum order.hopeful + sum order.dual + sweeps ≤ sum harvest.hopeful + sum harvest.dual

-- there is a goal, and both tables together have at least this sum
abbrev pub Reaches : Option ℕ → HarvestView → Type 0
Reaches None harvest = ⊥
Reaches (Some goal) harvest = goal ≤ sum harvest.hopeful + sum harvest.dual

-- A swept order as above, but a harvest that reaches the goal may exceed the order's tables by less.
pub record IsSweptTo (order : OrderView) (sweeps : ℕ) (goal : Option ℕ) (harvest : HarvestView) : Type 0 where
  pub kept : IsSweptOrder order 0 harvest
  pub enough : ¬ IsSettledHarvest harvest → Reaches goal harvest ⊎
      (sum order.hopeful + sum order.dual + sweeps ≤ sum harvest.hopeful + sum harvest.dual)

-- ---- how often an order was swept, and by how many lifters

-- a sweep leaves each vertex on or above the lift of the order's table there
pub record IsOneSweep (order : OrderView) (harvest : HarvestView) : Type 0 where
  pub swept : IsSweptOrder order 1 harvest
  pub lifted : (which : Which) (v : ℕ) → v < length order.game.vertices →
      lift_of (order_levels which order) (order_table which order) (vertex_at (order_arena which order) v)
      ≤ slice_index (harvest_table which harvest) v

-- One sweep by this many lifters made the harvest of the order. Tables show neither the number of lifters nor whether
-- it was one sweep or two. The machine may refuse each thread but the first, and each sweep raises as far as it comes.
-- So `IsSweptBy` and `IsGuessed` stay shut: they are known only of the sweep or guess that was asked for.
pub IsSweptBy : ℕ → OrderView → HarvestView → Type 0
IsSweptBy lifters order harvest = IsOneSweep order harvest

pub swept_by : (lifters : ℕ) (order : OrderView) (harvest : HarvestView) → IsOneSweep order harvest →
    IsSweptBy lifters order harvest
unfolding IsSweptBy
swept_by lifters order harvest swept = swept

pub swept_of : (lifters : ℕ) (order : OrderView) (harvest : HarvestView) → IsSweptBy lifters order harvest →
    IsOneSweep order harvest
unfolding IsSweptBy
swept_of lifters order harvest swept = swept

-- Certified guesses, or lifts if these find no memory, and no sweep, raised the order's tables to the harvest's.
pub IsGuessed : OrderView → HarvestView → Type 0
IsGuessed order harvest = IsHarvest harvest × IsSameOrder harvest.order order

pub guessed : (order : OrderView) (harvest : HarvestView) → IsHarvest harvest → IsSameOrder harvest.order order →
    IsGuessed order harvest
unfolding IsGuessed
guessed order harvest lawful same = (lawful, same)

pub guessed_of : (order : OrderView) (harvest : HarvestView) → IsGuessed order harvest →
    IsHarvest harvest × IsSameOrder harvest.order order
unfolding IsGuessed
guessed_of order harvest made = made

-- the harvest has the order's tables
pub record IsLeft (order : OrderView) (harvest : HarvestView) : Type 0 where
  pub page : IsOfPage harvest.order order
  pub same : (which : Which) → harvest_table which harvest ≡ order_table which order

-- This many sweeps made the harvest so, perhaps after certified guesses. Or guesses settled it, and there was no sweep.
abbrev pub AfterGuess : ℕ → (OrderView → HarvestView → Type 0) → OrderView → HarvestView → Type 0
AfterGuess sweeps Makes order harvest =
    Makes order harvest
    ⊎ ((raised : HarvestView) ×
    (IsGuessed order raised ×
    (((sweeps ≡ 0) × IsSettledHarvest raised × (harvest ≡ raised))
    ⊎ ((next : OrderView) × (IsOrderAgain next raised × Makes next harvest)))))

-- Exactly this many sweeps made the harvest of the order, one after another, perhaps with certified guesses between
-- them. Only the last may have settled it, so each other one raised something.
abbrev pub AreSweeps : ℕ → ℕ → OrderView → HarvestView → Type 0
AreSweeps lifters zero order harvest = IsLeft order harvest
AreSweeps lifters (suc n) order harvest =
    (first : HarvestView) × (IsSweptBy lifters order first
    × (((n ≡ 0) × (harvest ≡ first)) ⊎
    ((again : OrderView) ×
    ((¬ IsSettledHarvest first) × IsOrderAgain again first × AfterGuess n (AreSweeps lifters n) again harvest))))

-- This many sweeps led from the first order to the last one, and none of them settled it.
abbrev pub Leave : ℕ → ℕ → OrderView → OrderView → Type 0
Leave lifters zero order last = order ≡ last
Leave lifters (suc n) order last =
    (first : HarvestView) × (again : OrderView) ×
    (IsSweptBy lifters order first × (¬ IsSettledHarvest first) × IsOrderAgain again first × Leave lifters n again last)

-- Exactly this many sweeps made the harvest of the order, one after another, and no guess did. Only the last may have
-- settled it.
abbrev pub AreSweepsAlone : ℕ → ℕ → OrderView → HarvestView → Type 0
AreSweepsAlone lifters zero order harvest = IsLeft order harvest
AreSweepsAlone lifters (suc n) order harvest =
    (first : HarvestView) × (IsSweptBy lifters order first
    × (((n ≡ 0) × (harvest ≡ first)) ⊎
    ((again : OrderView) ×
    ((¬ IsSettledHarvest first) × IsOrderAgain again first × AreSweepsAlone lifters n again harvest))))

-- settling made the harvest of the order: this many sweeps, and certified guesses before or between them
abbrev pub Settles : ℕ → ℕ → OrderView → HarvestView → Type 0
Settles lifters n order harvest = AfterGuess n (AreSweeps lifters n) order harvest

-- ---- orders that a number of sweeps settles, whoever makes them

-- One round from an old table to a new one: each vertex is lifted once, all of them over the old table. No value falls
-- (Jurdzinski 2000).
pub record IsRound (ls : List Level) (arena : List Vertex) (old new : List ℕ) : Type 0 where
  pub len : length new ≡ length old
  pub lifted : (v : ℕ) → v < length old →
      slice_index new v ≡ max (slice_index old v) (lift_of ls old (vertex_at arena v))

-- this many such rounds lead from the table to a progress table
abbrev pub RoundsSettle : List Level → List Vertex → ℕ → List ℕ → Type 0
RoundsSettle ls arena zero table = IsProgressTable ls arena table
RoundsSettle ls arena (suc n) table = (next : List ℕ) × IsRound ls arena table next × RoundsSettle ls arena n next

-- this many such rounds lead from both tables of the order to progress tables
abbrev pub RoundsSettleOrder : ℕ → OrderView → Type 0
RoundsSettleOrder rounds order =
    (which : Which) → RoundsSettle (order_levels which order) (order_arena which order) rounds (order_table which order)

-- ---- when sweeps end

abbrev pub HasGoal : Option ℕ → Type 0
HasGoal None = ⊥
HasGoal (Some goal) = Unit {0}

-- The harvest is settled, or all sweeps were made. If there is a goal, there may be fewer, but more than 16.
abbrev pub EndsBy : Option ℕ → ℕ → ℕ → HarvestView → Type 0
EndsBy goal sweeps made harvest = IsSettledHarvest harvest ⊎ ((made ≡ sweeps) ⊎ (HasGoal goal × (16 < made)))

-- The harvest is settled, or all sweeps were made. Of 1,000,000 or more there may be fewer, but more than 16.
abbrev pub HasEnded : ℕ → ℕ → HarvestView → Type 0
HasEnded sweeps made harvest =
    IsSettledHarvest harvest ⊎ ((made ≡ sweeps) ⊎ ((1000000 ≤ sweeps) × (16 < made)))
